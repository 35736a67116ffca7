pub mod Known
mod Readings
