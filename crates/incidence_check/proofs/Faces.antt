-- The list of faces of a cell.
use Rattle.std.proofs.Common.{◌≡◌, ℕ, ◌+◌, ◌<◌, Bool, true, false, ◌&&◌, length, nat_eq, get_or, All, refl, sym, ap, ◌∙◌, arith}
use Rattle.std.specs.List.{list_any}
use Rattle.std.proofs.lemmas.Bool.{eqb-true, eq-eqb}
use Rattle.std.proofs.lemmas.List.Folds.{list_any_at}
use Rattle.std.proofs.lemmas.List.FromFn.{length-range_with_len, get_or-range_with_len}
use Rattle.std.proofs.lemmas.List.Elements.{All-filter}
use Rattle.std.proofs.lemmas.Map.Views.{any-filter_same}
use Rattle.cell_complex.specs.Complexes.{CellComplex, all_cells, is_face, faces_of}
use Rattle.cell_complex.specs.Invariants.{IsComplex}
use Rattle.cell_complex.proofs.Numbers.{range-below}
use Rattle.cell_complex.proofs.Callers.{AreIncident, incident_from_face}

pub faces_of-below : (c : CellComplex) (t : ℕ) → All (λ s. s < length c.dims) (faces_of c t)
faces_of-below c t k d l =
    let h = All-filter (λ s. is_face c s t) (λ s. s < 0 + length c.dims) (all_cells c) (range-below 0 (length c.dims)) k
    d l in
    omega (arith, h)

-- s is in the list below t just where it is a face of t
pub list_any-faces_of : (c : CellComplex) → IsComplex c → (s t : ℕ) → list_any (nat_eq s) (faces_of c t) ≡ is_face c s t
list_any-faces_of c h s t =
    any-filter_same (nat_eq s) (λ v. is_face c v t) (is_face c s t)
    (λ k e. ap (λ v. is_face c v t) (sym (eqb-true s k e))) (all_cells c)
    ∙ by (is_face c s t) (λ e. there (incident_from_face c h s t e))
  where
    there : AreIncident c.dims s t → list_any (nat_eq s) (all_cells c) ≡ true
    there i =
        list_any_at (nat_eq s) (all_cells c) s 0 (omega (arith, i.s_is_cell, length-range_with_len 0 (length c.dims)))
        (eq-eqb s (get_or (all_cells c) s 0) (omega (arith, get_or-range_with_len 0 (length c.dims) s 0 i.s_is_cell)))

    by : (b : Bool) → (b ≡ true → list_any (nat_eq s) (all_cells c) ≡ true) → (b && list_any (nat_eq s) (all_cells c))
        ≡ b
    by true h = h refl
    by false h = refl
