-- What a complex in memory keeps, degree by degree.
use Rattle.std.proofs.Common.{◌≡◌, ℕ, ◌+◌, ◌≤◌, Vec, Global, Bool, true, false, cond, List, [], ◌∷◌, length, filter}
use Rattle.std.proofs.Common.{get_or, All, sym, ap, ◌∙◌, subst, arith, add-one}
use Rattle.std.specs.Prelude.{◌==◌}
use Rattle.std.proofs.lemmas.List.Elements.{All-filter, All-map}
use Rattle.dense_blocks.specs.Field.{Ops}
use Rattle.dense_blocks.specs.FieldLaws.{IsField}
use Rattle.dense_blocks.specs.MatrixFacts.{IsMatrix}
use Rattle.dense_blocks.proofs.Shapes.{Matrix, from_matrix}
use Rattle.dense_blocks.specs.Solutions.{lists}
use Rattle.dense_blocks.proofs.Cutting.{cut-size}
use Rattle.cochain_vec.specs.declared.cell.Cell.{Cell}
use Rattle.cochain_vec.specs.Complexes as complexes
use Rattle.cochain_vec.specs.Complexes.{CellularComplex, total_size, coordinates}
use Rattle.cochain_vec.specs.Shapes.{RowsFit}
use Rattle.plain_bases.specs.declared.complex.Arrow.{Arrow}
use Rattle.plain_bases.specs.declared.complex.Complex.{Complex}
use Rattle.plain_bases.specs.View.{arrow_of, plain_complex_of, FitsCells, IsComplexOver}
use Rattle.plain_bases.specs.Columns.{columns_from}
use Rattle.plain_bases.specs.Parts.{images}
use Rattle.plain_bases.proofs.BasisLaws.{columns_from-rows}
use Rattle.plain_bases.proofs.VecLaws.{lists-size}

-- some of the cells have no more coordinates than all
total_size-filter-le : (p : Cell → Bool) (cs : List Cell) → total_size (filter p cs) ≤ total_size cs
total_size-filter-le p [] = omega arith
total_size-filter-le p (c ∷ cs) = go (p c) (total_size-filter-le p cs)
  where
    go : (b : Bool) → total_size (filter p cs) ≤ total_size cs → total_size (cond b (c ∷ filter p cs) (filter p cs))
        ≤ c.size + total_size cs
    go true h = omega arith
    go false h = omega arith

-- blocks that fit all cells fit some of them
pub fits-filter : (K : Ops) (p : Cell → Bool) (cs : List Cell) (arrows : List Arrow) → All (FitsCells K cs) arrows
    → All (FitsCells K (filter p cs)) arrows
fits-filter K p cs arrows h i d l =
    let a = get_or arrows i d in
    let fits = h i d l in record {
      rows = All-filter p (λ (t : Cell). a.to ≡ t.cell → a.block.rows ≡ t.size) cs fits.rows;
      columns = All-filter p (λ (s : Cell). a.from ≡ s.cell → a.block.cols ≡ s.size) cs fits.columns;
      scalars = fits.scalars;
    }

module _ (K : Ops) (F : IsField K) (c : Complex) (h : IsComplexOver K c) where
  -- the rows of the matrices are those of the cells that they go to
  pub rows_fit : RowsFit (plain_complex_of c)
  rows_fit i t l =
      let cell = get_or c.cells i t in
      All-map (λ (a : complexes.Arrow). a.to ≡ cell.cell → length a.matrix ≡ cell.size) arrow_of c.arrows
      (λ j d m e. let a = get_or c.arrows j d in cut-size a.block.rows a.block.cols a.block.entries
      ∙ (h.fits j d m).rows i t l e)

  pub few_of : (p : Cell → Bool) → total_size (filter p c.cells) ≤ 4096
  few_of p = let le = total_size-filter-le p c.cells in let few = h.few in omega arith

  -- the columns that the code makes are those of the coboundary
  pub images-columns : (k : ℕ) → images K c.arrows (filter (λ x. x.degree == k) c.cells)
      (filter (λ x. x.degree == k + 1) c.cells) ≡ columns_from K (plain_complex_of c) k
  images-columns k = ap (λ j. images K c.arrows (filter (λ x. x.degree == k) c.cells)
      (filter (λ x. x.degree == j) c.cells)) (add-one k)

  pub columns_from-vectors : (k : ℕ) (vs : List (Vec ℕ Global)) → lists vs ≡ columns_from K (plain_complex_of c) k
      → IsMatrix K (length vs) (coordinates (plain_complex_of c) (k + 1)) (lists vs)
  columns_from-vectors k vs e =
      let size : length (columns_from K (plain_complex_of c) k) ≡ length vs = sym (ap length e) ∙ lists-size vs in
      subst (λ (us : List (List ℕ)). IsMatrix K (length vs) (coordinates (plain_complex_of c) (k + 1)) us) (sym e)
      (from_matrix K (length vs) (coordinates (plain_complex_of c) (k + 1)) (columns_from K (plain_complex_of c) k)
      (subst (λ m. Matrix K m (coordinates (plain_complex_of c) (k + 1)) (columns_from K (plain_complex_of c) k)) size
      (subst (λ j. Matrix K (length (columns_from K (plain_complex_of c) k)) (coordinates (plain_complex_of c) j)
      (columns_from K (plain_complex_of c) k)) (sym (add-one k))
      (columns_from-rows K F (plain_complex_of c) rows_fit k))))
