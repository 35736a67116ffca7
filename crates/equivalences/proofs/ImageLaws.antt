-- The columns of a block as cochains: the images of the unit vectors.
use Rattle.std.proofs.Common.{◌≡◌, ◌<◌, ◌+◌, ℕ, zero, suc, List, [], ◌∷◌, ◌++◌, length, map, take, get_or}
use Rattle.std.proofs.Common.{Some, slice_get, refl, sym, ap, ap₂, ◌∙◌, subst, arith}
use Rattle.std.proofs.lemmas.List.{take_more, take_all, map-append, get_or-map, length-map, length_push}
use Rattle.std.proofs.lemmas.List.Elements.{All-push}
use Rattle.dense_blocks.specs.Field.{Ops}
use Rattle.dense_blocks.specs.FieldLaws.{IsField}
use Rattle.dense_blocks.specs.Matrices.{image_of, product}
use Rattle.dense_blocks.specs.MatrixFacts.{identity}
use Rattle.dense_blocks.specs.Blocks.{matrix_of}
use Rattle.dense_blocks.specs.declared.block.Block.{Block}
use Rattle.dense_blocks.proofs.Shapes.{Matrix}
use Rattle.dense_blocks.proofs.Cutting.{cut-size}
use Rattle.dense_blocks.proofs.BlockLaws.{block-matrix_at}
use Rattle.dense_blocks.proofs.MatrixLaws.{identity-matrix, identity-product}
use Rattle.cochain_vec.specs.declared.cochain.Cochain.{Cochain}
use Rattle.cochain_vec.specs.Complexes.{CellularComplex, coordinates}
use Rattle.cochain_vec.specs.Cohomology.{IsBasis}
use Rattle.block_complexes.specs.BlockComplexes.{BlockComplex, IsBlockComplex}
use Rattle.block_complexes.specs.Cochains.{complex_of}
use Rattle.equivalence_laws.specs.Bases.{HasNoBlock, unit_images}
use Rattle.equivalence_laws.specs.Equivalences.{graded_matrix}
use Rattle.equivalence_laws.specs.Transposes.{transpose}
use Rattle.equivalence_laws.proofs.BasisLaws.{unit_images_are_basis}
use Rattle.equivalence_laws.proofs.BlocklessLaws.{no_block}
use Rattle.equivalence_laws.proofs.CompositeLaws.{complex_fits}
use Rattle.equivalence_laws.proofs.TransposeLaws.{combination-transpose, transpose-matrix, transpose-row}
use Rattle.equivalence_laws.proofs.TransposeLaws.{transpose-length}
use Rattle.equivalences.specs.Between.{AreMapsBetween, IsEquivalenceOf}
use Rattle.equivalences.specs.declared.equivalence.Equivalence.{Equivalence}
use Rattle.equivalences.specs.CochainLists.{AreCochains, values_of}
use Rattle.equivalences.proofs.ComposedBlocks.{graded-at}

module _ (K : Ops) (F : IsField K) (m n : ℕ) (A : List (List ℕ)) (h : Matrix K m n A) where
  images-combine : (k : ℕ) (vs : List (List ℕ)) → Matrix K k n vs
      → product K m vs (transpose n A) ≡ map (image_of K A) vs
  images-combine zero [] hv = refl
  images-combine zero (v ∷ vs) hv = absurd hv
  images-combine (suc k) [] hv = absurd hv
  images-combine (suc k) (v ∷ vs) hv =
      ap₂ ◌∷◌ (combination-transpose K F m n A v h hv.0) (images-combine k vs hv.1)

  columns-images : transpose n A ≡ map (image_of K A) (identity n)
  columns-images =
      sym (identity-product K F n m (transpose n A) (transpose-matrix K F m n A h))
      ∙ images-combine n (identity n) (identity-matrix K F n)

-- the columns of the block of iota are the images of the unit vectors
iota-columns : (K : Ops) (F : IsField K) (C D : CellularComplex) (e : Equivalence) (k : ℕ) (b : Block)
    → AreMapsBetween K C D e → slice_get e.iota k ≡ Some b
    → transpose b.cols (matrix_of b) ≡ unit_images K D (graded_matrix e.iota) k
iota-columns K F C D e k b maps at =
    let over = maps.iota k b at in
    ap (λ n. transpose n (matrix_of b)) over.columns_are
    ∙ columns-images K F (coordinates C k) (coordinates D k) (matrix_of b)
    (block-matrix_at K b (coordinates C k) (coordinates D k) over.rows_are over.columns_are over.scalars)
    ∙ ap (λ A. map (image_of K A) (identity (coordinates D k))) (sym (graded-at e.iota k b at))

-- one entry more of a column
pub entries-more : (b : Block) (j i : ℕ) (row now new : List ℕ) → i < b.rows
    → now ≡ take i (map (λ row. get_or row j 0) (matrix_of b)) → row ≡ get_or (matrix_of b) i []
    → new ≡ now ++ get_or row j 0 ∷ [] → new ≡ take (i + 1) (map (λ row. get_or row j 0) (matrix_of b))
entries-more b j i row now new l h r e =
    let entry : List ℕ → ℕ = λ row. get_or row j 0 in
    let rows : length (matrix_of b) ≡ b.rows = cut-size b.rows b.cols b.entries in
    let count : length (map entry (matrix_of b)) ≡ length (matrix_of b) = length-map (matrix_of b) entry in
    e
    ∙ ap₂ (λ (u : List ℕ) (x : ℕ). u ++ x ∷ []) h
    (ap entry r ∙ sym (get_or-map entry (matrix_of b) i [] 0 (omega (arith, l, rows))))
    ∙ sym (take_more (map entry (matrix_of b)) i 0 (omega (arith, l, rows, count)))

pub entries-all : (b : Block) (j i : ℕ) (now : List ℕ) → b.rows ≡ i
    → now ≡ take i (map (λ row. get_or row j 0) (matrix_of b)) → now ≡ map (λ row. get_or row j 0) (matrix_of b)
entries-all b j i now e h =
    let entry : List ℕ → ℕ = λ row. get_or row j 0 in
    let rows : length (matrix_of b) ≡ b.rows = cut-size b.rows b.cols b.entries in
    let count : length (map entry (matrix_of b)) ≡ length (matrix_of b) = length-map (matrix_of b) entry in
    h ∙ take_all i (map entry (matrix_of b)) (omega (arith, e, rows, count))

-- one column more
pub columns-more : (n k j : ℕ) (A : List (List ℕ)) (now new : List Cochain) (z : Cochain) → j < n
    → AreCochains k (take j (transpose n A)) now → z.degree ≡ k → z.values.items ≡ map (λ row. get_or row j 0) A
    → new ≡ now ++ z ∷ [] → AreCochains k (take (j + 1) (transpose n A)) new
columns-more n k j A now new z l so_far degree values e =
    subst (AreCochains k (take (j + 1) (transpose n A))) (sym e) (record {
      degrees = All-push (λ (z : Cochain). z.degree ≡ k) now z so_far.degrees degree;
      values_are = map-append (λ (z : Cochain). z.values.items) now (z ∷ [])
          ∙ ap₂ (λ (us : List (List ℕ)) (u : List ℕ). us ++ u ∷ []) so_far.values_are
          (values ∙ sym (transpose-row n j A l))
          ∙ sym (take_more (transpose n A) j [] (omega (arith, l, transpose-length n A)));
    })

pub columns-all : (n k j : ℕ) (A : List (List ℕ)) (now : List Cochain) → n ≡ j
    → AreCochains k (take j (transpose n A)) now → AreCochains k (transpose n A) now
columns-all n k j A now e so_far =
    subst (λ us. AreCochains k us now)
    (take_all j (transpose n A) (omega (arith, e, transpose-length n A))) so_far

-- the columns of the block of iota, as cochains, are the images of the unit vectors
pub columns-are-images : (K : Ops) (F : IsField K) (C D : CellularComplex) (e : Equivalence) (k : ℕ) (b : Block)
    (zs : List Cochain) → AreMapsBetween K C D e → slice_get e.iota k ≡ Some b
    → AreCochains k (transpose b.cols (matrix_of b)) zs
    → AreCochains k (unit_images K D (graded_matrix e.iota) k) zs
columns-are-images K F C D e k b zs maps at h =
    subst (λ values. AreCochains k values zs) (iota-columns K F C D e k b maps at) h

-- where what is left has no blocks, they are a basis
pub images-basis : (K : Ops) (F : IsField K) (v w : BlockComplex) (e : Equivalence) (k : ℕ) (zs : List Cochain)
    → IsBlockComplex K v → IsBlockComplex K w → HasNoBlock w → IsEquivalenceOf K (complex_of v) (complex_of w) e
    → AreCochains k (unit_images K (complex_of w) (graded_matrix e.iota) k) zs
    → IsBasis K (complex_of v) k (values_of zs)
images-basis K F v w e k zs is is_rest none equivalent images =
    subst (IsBasis K (complex_of v) k) (sym images.values_are)
    (unit_images_are_basis K (complex_of v) (complex_of w) (graded_matrix e.pi) (graded_matrix e.iota)
    (graded_matrix e.h) F (complex_fits K F v is) (complex_fits K F w is_rest) equivalent.equivalence
    (no_block K F w is_rest none) k)
