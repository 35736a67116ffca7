-- Lists of cells, one for each cell.
use Rattle.std.specs.Prelude.{ℕ, ◌<◌, List, [], ◌∷◌, map, nat_lt, vec_len, vec_capacity, if◌then◌else◌}
use Rattle.std.specs.List.{HoldsAt}
use Rattle.cell_complex.specs.declared.neighbours.Neighbours.{Neighbours}

-- the lists, in order of cells
abbrev pub neighbour_lists : Neighbours → List (List ℕ)
neighbour_lists n = map (λ v. v.items) n.lists.items

-- one element more fits into the list of the cell
abbrev pub HasRoom : Neighbours → ℕ → Type 0
HasRoom n cell = HoldsAt (λ v. vec_len v < vec_capacity v) n.lists.items cell

-- a rising list with one cell more, in its place
abbrev pub with_cell : ℕ → List ℕ → List ℕ
with_cell x [] = x ∷ []
with_cell x (y ∷ ys) = if nat_lt y x then y ∷ with_cell x ys else x ∷ y ∷ ys
