pub mod FieldByEntries
