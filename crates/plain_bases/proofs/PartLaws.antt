-- The parts of a coboundary, arrow by arrow and cell by cell.
use Rattle.std.proofs.Common.{◌≡◌, ℕ, zero, suc, ◌+◌, ◌<◌, ◌≤◌, List, [], ◌∷◌, ◌++◌, length, map, take, drop, get_or}
use Rattle.std.proofs.Common.{cond, eqb, true, false, refl, sym, ap, ◌∙◌, subst, arith, add-zero, zero-add}
use Rattle.std.proofs.lemmas.List.{map-append, append-nil, take_more}
use Rattle.std.proofs.lemmas.Grind.{flat_map-append, common_steps}
use Rattle.dense_blocks.specs.Field.{Ops}
use Rattle.dense_blocks.specs.FieldLaws.{IsField}
use Rattle.dense_blocks.specs.Vectors.{AllScalars, IsVector, zeros, plus}
use Rattle.dense_blocks.specs.Matrices.{image_of}
use Rattle.dense_blocks.proofs.Shapes.{vector_of, vector-scalars, append-vector, to_vector, from_vector}
use Rattle.dense_blocks.proofs.VectorLaws.{plus-assoc, plus-comm}
use Rattle.cochain_vec.specs.declared.cell.Cell.{Cell}
use Rattle.cochain_vec.specs.Complexes.{Arrow, total_size, value_at, sum_into}
use Rattle.cochain_vec.proofs.CoboundaryLaws.{size_at, value-vector}
use Rattle.plain_bases.specs.declared.complex.Arrow as declared_arrow
use Rattle.plain_bases.specs.View.{arrow_of}
use Rattle.plain_bases.specs.Parts.{part_at, image}
use Rattle.dense_blocks.specs.Blocks.{matrix_of}

-- what is written back into a vector of the same length
pub put_back : (new old : List ℕ) (len : ℕ) → len ≡ length old → length new ≡ length old
    → take len (new ++ drop (length new) old) ≡ new
put_back new old len e f = grind (arith, common_steps)

module _ (K : Ops) (F : IsField K) where
  pub value_scalars : (cs : List Cell) (z : List ℕ) (s : ℕ) → length z ≡ total_size cs → AllScalars K z
      → AllScalars K (value_at cs z s)
  value_scalars cs z s e h = vector-scalars K (size_at cs s) (value_at cs z s)
      (value-vector K cs z s (vector_of K (total_size cs) z e h))

  -- one arrow more
  sum_into-push : (arrows : List Arrow) (a : Arrow) (value : ℕ → List ℕ) (n t : ℕ)
      → sum_into K (arrows ++ a ∷ []) value n t
      ≡ cond (eqb a.to t) (plus K (sum_into K arrows value n t) (image_of K a.matrix (value a.from)))
      (sum_into K arrows value n t)
  sum_into-push [] a value n t =
      elim (eqb a.to t) as (λ b. cond b (plus K (image_of K a.matrix (value a.from)) (zeros n)) (zeros n)
      ≡ cond b (plus K (zeros n) (image_of K a.matrix (value a.from))) (zeros n)) [
        | true ↦ plus-comm K F (image_of K a.matrix (value a.from)) (zeros n)
        | false ↦ refl
      ]
  sum_into-push (c ∷ arrows) a value n t =
      let image : Arrow → List ℕ = λ x. image_of K x.matrix (value x.from) in
      let before = sum_into K arrows value n t in
      ap (λ rest. cond (eqb c.to t) (plus K (image c) rest) rest) (sum_into-push arrows a value n t)
      ∙ elim (eqb c.to t) as (λ x. cond x (plus K (image c) (cond (eqb a.to t) (plus K before (image a)) before))
      (cond (eqb a.to t) (plus K before (image a)) before)
      ≡ cond (eqb a.to t) (plus K (cond x (plus K (image c) before) before) (image a))
      (cond x (plus K (image c) before) before)) [
        | true ↦ elim (eqb a.to t) as (λ y. plus K (image c) (cond y (plus K before (image a)) before)
            ≡ cond y (plus K (plus K (image c) before) (image a)) (plus K (image c) before)) [
              | true ↦ sym (plus-assoc K F (image c) before (image a))
              | false ↦ refl
            ]
        | false ↦ refl
      ]

  -- one arrow more brings its image, if it goes to the cell
  pub part-next : (arrows : List declared_arrow.Arrow) (source : List Cell) (z : List ℕ) (t : Cell) (i : ℕ)
      (d : declared_arrow.Arrow) → i < length arrows
      → part_at K (take (i + 1) arrows) source z t
      ≡ cond (eqb (get_or arrows i d).to t.cell)
      (plus K (part_at K (take i arrows) source z t)
      (image_of K (matrix_of (get_or arrows i d).block) (value_at source z (get_or arrows i d).from)))
      (part_at K (take i arrows) source z t)
  part-next arrows source z t i d l =
      ap (λ xs. part_at K xs source z t) (take_more arrows i d l)
      ∙ ap (λ xs. sum_into K xs (value_at source z) t.size t.cell)
      (map-append arrow_of (take i arrows) (get_or arrows i d ∷ []))
      ∙ sum_into-push (map arrow_of (take i arrows)) (arrow_of (get_or arrows i d)) (value_at source z) t.size t.cell

-- one cell more
pub image-next : (K : Ops) (arrows : List declared_arrow.Arrow) (source target : List Cell) (z : List ℕ) (i : ℕ)
    (d : Cell) → i < length target
    → image K arrows source (take (i + 1) target) z ≡ image K arrows source (take i target) z ++ part_at K arrows source
    z (get_or target i d)
image-next K arrows source target z i d l =
    ap (λ ts. image K arrows source ts z) (take_more target i d l)
    ∙ flat_map-append (part_at K arrows source z) (take i target) (get_or target i d ∷ [])
    ∙ ap (λ t. image K arrows source (take i target) z ++ t)
    (append-nil (part_at K arrows source z (get_or target i d)))

total_size-append : (cs ds : List Cell) → total_size (cs ++ ds) ≡ total_size cs + total_size ds
total_size-append [] ds = sym (zero-add (total_size ds))
total_size-append (c ∷ cs) ds = let rest = total_size-append cs ds in omega arith

pub total_size_next : (cs : List Cell) (i : ℕ) (d : Cell) → i < length cs → total_size (take (i + 1) cs)
    ≡ total_size (take i cs) + (get_or cs i d).size
total_size_next cs i d l =
    ap total_size (take_more cs i d l) ∙ total_size-append (take i cs) (get_or cs i d ∷ [])
    ∙ ap (λ n. total_size (take i cs) + n) (add-zero (get_or cs i d).size)

pub vector-next : (K : Ops) (cs : List Cell) (i : ℕ) (d : Cell) (u v : List ℕ) → i < length cs
    → IsVector K (total_size (take i cs)) u → IsVector K (get_or cs i d).size v
    → IsVector K (total_size (take (i + 1) cs)) (u ++ v)
vector-next K cs i d u v l hu hv =
    let n = total_size (take i cs) in let m = (get_or cs i d).size in
    subst (λ k. IsVector K k (u ++ v)) (sym (total_size_next cs i d l))
    (from_vector K (n + m) (u ++ v) (append-vector K n m u v (to_vector K n u hu) (to_vector K m v hv)))

-- a prefix of the cells has no more coordinates than all
pub total_size_prefix : (cs : List Cell) (i : ℕ) → total_size (take i cs) ≤ total_size cs
total_size_prefix cs zero = omega arith
total_size_prefix [] (suc i) = omega arith
total_size_prefix (c ∷ cs) (suc i) = let rest = total_size_prefix cs i in omega arith
