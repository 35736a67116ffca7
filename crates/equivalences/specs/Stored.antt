-- The maps of a composite as they are stored.
use Rattle.std.specs.Prelude.{◌≡◌, ℕ, true, [], length, slice_index_or}
use Rattle.rising_lists.specs.Rising.{has}
use Rattle.block_complexes.specs.BlockComplexes.{cells}
use Rattle.block_sparse.specs.StoredBlocks.{AreLive}
use Rattle.equivalences.specs.Rows.{cell_rows_of}
use Rattle.equivalence_laws.specs.CellMaps.{CellMaps}
use Rattle.equivalences.specs.declared.maps.Maps.{Maps}

-- the maps that are stored
abbrev pub maps_of : Maps → CellMaps
maps_of m = record {
  live = m.live.items;
  pi = λ c. cell_rows_of m.pi c;
  iota = λ c. cell_rows_of m.iota c;
  h = λ k. slice_index_or m.h.items k [];
}

-- the cells that are left may be live, and each has rows and columns; and there is a matrix of h for each degree
pub record AreStored (m : Maps) : Type 0 where
  pub live_cells : AreLive m.live.items
  pub pi_cells : (c : ℕ) → has c (cells m.live.items) ≡ true → has c m.pi.cells ≡ true
  pub iota_cells : (c : ℕ) → has c (cells m.live.items) ≡ true → has c m.iota.cells ≡ true
  pub h_count : length m.h.items ≡ 16
