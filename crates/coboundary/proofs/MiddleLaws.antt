-- Signs and squares: the two ways from a cell to one two dimensions up.
use Rattle.std.proofs.Common.{◌≡◌, ℕ, ◌<◌, ◌≤◌, Bool, true, false, cond, ◌||◌, ⊎_elim, List, [], ◌∷◌, length, find}
use Rattle.std.proofs.Common.{get_or, slice_get, None, Some, refl, sym, ap, ◌∙◌, arith}
use Rattle.std.specs.List.{list_any}
use Rattle.std.specs.Option.{option_map, option_and_then}
use Rattle.std.proofs.lemmas.Bool.{true≢false}
use Rattle.std.proofs.lemmas.Option.{slice_get_cases}
use Rattle.cell_complex.specs.declared.face.Face.{Face}
use Rattle.cell_complex.specs.declared.face.Sign.{Sign}
use Rattle.cell_complex.specs.declared.face.Sign.TheVariants.{Plus, Minus}
use Rattle.cell_complex.specs.Complexes.{CellComplex, joins, is_face, sign}
use Rattle.dense_blocks.specs.Field.{Ops}
use Rattle.dense_blocks.specs.FieldLaws.{IsField}
use Rattle.dense_blocks.specs.Vectors.{zeros, plus}
use Rattle.dense_blocks.specs.MatrixFacts.{negative}
use Rattle.dense_blocks.specs.Matrices.{image_of, product}
use Rattle.dense_blocks.specs.declared.block.Block.{Block}
use Rattle.dense_blocks.proofs.Shapes.{Vector, Matrix}
use Rattle.dense_blocks.proofs.VectorLaws.{negative-negative, negative-plus, plus-negative}
use Rattle.dense_blocks.proofs.MatrixLaws.{image_of-negative, matrix_negative-image_of, matrix_negative-matrix}
use Rattle.dense_blocks.proofs.MatrixLaws.{product-image_of}
use Rattle.incidence_check.specs.Incidences.{are_opposite, times}
use Rattle.square_check.specs.Squares.{restriction}
use Rattle.cell_complex.proofs.Places.{placed}
use Rattle.sheaf_data.specs.Betti.{signed_matrix}

-- a vector with a sign
abbrev pub signed_vector : Ops → Sign → List ℕ → List ℕ
signed_vector K Plus v = v
signed_vector K Minus v = negative K v

module _ (K : Ops) (F : IsField K) where
  signed_matrix-image_of : (g : Sign) (A : List (List ℕ)) (v : List ℕ) → image_of K (signed_matrix K g A) v
      ≡ signed_vector K g (image_of K A v)
  signed_matrix-image_of Plus A v = refl
  signed_matrix-image_of Minus A v = matrix_negative-image_of K F A v

  image_of-signed_matrix : (g : Sign) (A : List (List ℕ)) (v : List ℕ) → image_of K A (signed_vector K g v)
      ≡ signed_vector K g (image_of K A v)
  image_of-signed_matrix Plus A v = refl
  image_of-signed_matrix Minus A v = image_of-negative K F A v

  signed_matrix-signed_matrix : (n : ℕ) (g h : Sign) (v : List ℕ) → Vector K n v
      → signed_vector K h (signed_vector K g v) ≡ signed_vector K (times g h) v
  signed_matrix-signed_matrix n Plus h v s = refl
  signed_matrix-signed_matrix n Minus Plus v s = refl
  signed_matrix-signed_matrix n Minus Minus v s = negative-negative K F n v s

  pub signed_matrix-matrix : (m n : ℕ) (g : Sign) (A : List (List ℕ)) → Matrix K m n A
      → Matrix K m n (signed_matrix K g A)
  signed_matrix-matrix m n Plus A h = h
  signed_matrix-matrix m n Minus A h = matrix_negative-matrix K F m n A h

  -- two signs in turn are their product
  pub signed_matrix-twice : (m n : ℕ) (g h : Sign) (A B : List (List ℕ)) (v : List ℕ) → Matrix K m n B
      → Vector K (length A) (image_of K A (image_of K B v))
      → image_of K (signed_matrix K h A) (image_of K (signed_matrix K g B) v) ≡ signed_vector K (times g h)
      (image_of K (product K n A B) v)
  signed_matrix-twice m n g h A B v shape vector =
      signed_matrix-image_of h A (image_of K (signed_matrix K g B) v)
      ∙ ap (λ w. signed_vector K h (image_of K A w)) (signed_matrix-image_of g B v)
      ∙ ap (signed_vector K h) (image_of-signed_matrix g A (image_of K B v))
      ∙ signed_matrix-signed_matrix (length A) g h (image_of K A (image_of K B v)) vector
      ∙ ap (signed_vector K (times g h)) (sym (product-image_of K F m n A B v shape))

  -- a vector with opposite signs adds up to zero
  pub opposite-cancel : (n : ℕ) (g h : Sign) (v : List ℕ) → Vector K n v → are_opposite (Some g) (Some h) ≡ true
      → plus K (signed_vector K g v) (signed_vector K h v) ≡ zeros n
  opposite-cancel n Plus Plus v s e = absurd (true≢false (sym e))
  opposite-cancel n Plus Minus v s e = plus-negative K F n v s
  opposite-cancel n Minus Plus v s e = negative-plus K F n v s
  opposite-cancel n Minus Minus v s e = absurd (true≢false (sym e))

-- the sign and the block of s in t
pub record HasArrow (c : CellComplex) (blocks : List Block) (s t : ℕ) : Type 0 where
  pub its_sign : Sign
  pub its_block : Block
  pub sign_is : sign c s t ≡ Some its_sign
  pub block_is : restriction c blocks s t ≡ Some its_block

found : {X : Type 0} (p : X → Bool) (xs : List X) → list_any p xs ≡ true → (x : X) × (find p xs ≡ Some x)
found p [] h = absurd (true≢false (sym h))
found {X} p (x ∷ xs) h = go (p x) h (found p xs)
  where
    go : (b : Bool) → (b || list_any p xs) ≡ true → (list_any p xs ≡ true → (y : X) × (find p xs ≡ Some y)) → (y : X)
        × (cond b (Some x) (find p xs) ≡ Some y)
    go true e later = (x, refl)
    go false e later = later e

pub has_arrow : (c : CellComplex) (blocks : List Block) → length blocks ≡ length c.faces → (s t : ℕ)
    → is_face c s t ≡ true → HasArrow c blocks s t
has_arrow c blocks same s t h =
    let f = found (joins s t) c.faces h in
    let p = placed c s t h in
    ⊎_elim
    (λ (b : (x : Block) × (p.at < length blocks) × (slice_get blocks p.at ≡ Some x) × (get_or blocks p.at x ≡ x)).
    let r : HasArrow c blocks s t = record {
      its_sign = f.0.sign;
      its_block = b.0;
      sign_is = ap (option_map (λ (g : Face). g.sign)) f.1;
      block_is = ap (option_and_then (slice_get blocks)) p.is ∙ b.2;
    } in r)
    (λ (past : (length blocks ≤ p.at) × (slice_get blocks p.at ≡ None)). let inside : p.at < length c.faces =
    p.inside in absurd (omega arith))
    (slice_get_cases blocks p.at).1
