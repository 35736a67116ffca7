-- Blocks that are known by their matrices.
use Rattle.std.proofs.Common.{◌≡◌, ◌≤◌, ◌<◌, ◌*◌, ℕ, zero, suc, ◌+◌, List, [], ◌∷◌, length, All, get_or, set, inl, inr}
use Rattle.std.proofs.Common.{ap, ap₂, sym, ◌∙◌, subst, arith, ◌≢◌}
use Rattle.std.proofs.lemmas.Bool.{cases_lt}
use Rattle.std.proofs.lemmas.List.{get_or_past, get_or-set_same, get_or-set_other}
use Rattle.std.proofs.lemmas.List.Elements.{All-head}
use Rattle.dense_blocks.specs.Field.{Ops}
use Rattle.dense_blocks.specs.Vectors.{AllScalars}
use Rattle.dense_blocks.specs.Matrices.{cut}
use Rattle.dense_blocks.specs.MatrixFacts.{IsMatrix, zero_matrix}
use Rattle.dense_blocks.specs.Blocks.{matrix_of}
use Rattle.dense_blocks.specs.BlockFacts.{IsBlock}
use Rattle.dense_blocks.specs.declared.block.Block.{Block}
use Rattle.dense_blocks.proofs.Shapes.{Matrix}
use Rattle.dense_blocks.proofs.Cutting.{Sized, cut-size, flat-cut, flat-scalars}
use Rattle.cochain_vec.specs.Complexes.{total_size, coordinates}
use Rattle.block_complexes.specs.BlockComplexes.{BlockComplex}
use Rattle.block_complexes.specs.Cochains.{complex_of}
use Rattle.block_sparse.specs.StoredBlocks.{AreLive}
use Rattle.block_sparse.proofs.Windows.{sized-cut}
use Rattle.equivalence_laws.specs.Transposes.{transpose}
use Rattle.equivalences.specs.Rows.{HasShape, with_product}
use Rattle.equivalences.proofs.EndLaws.{of_degree-none}

sized-width : (m n w : ℕ) (A : List (List ℕ)) → Sized m w A → All (λ row. length row ≡ n) A → 1 ≤ m → w ≡ n
sized-width zero n w A s h l = absurd (omega arith)
sized-width (suc m) n w [] s h l = absurd s
sized-width (suc m) n w (r ∷ A) s h l = sym s.0 ∙ All-head (λ row. length row ≡ n) r A h

wide-entries : (m n w : ℕ) (A : List (List ℕ)) (xs : List ℕ) → HasShape m n A → cut m w xs ≡ A → length xs ≡ m * w
    → (length xs ≡ m * n) × (cut m n xs ≡ A)
wide-entries zero n w A xs h e full = (omega (arith, full), e)
wide-entries (suc m) n w A xs h e full =
    let same : w ≡ n = sized-width (suc m) n w A (subst (Sized (suc m) w) e (sized-cut (suc m) w xs
    (omega (arith, full)))) h.widths (omega arith) in
    (full ∙ ap (λ k. suc m * k) same, ap (λ k. cut (suc m) k xs) (sym same) ∙ e)

-- the entries of a block are those of rows of this shape
pub wide-block : (m n : ℕ) (A : List (List ℕ)) (b : Block) → HasShape m n A → matrix_of b ≡ A
    → (b.rows ≡ m) × (length b.entries ≡ m * n) × (cut m n b.entries ≡ A)
wide-block m n A b h e =
    let rows : b.rows ≡ m = sym (cut-size b.rows b.cols b.entries) ∙ ap length e ∙ h.count in
    let entries = wide-entries m n b.cols A b.entries h (ap (λ k. cut k b.cols b.entries) (sym rows) ∙ e)
    (b.full ∙ ap (λ k. k * b.cols) rows) in
    (rows, entries.0, entries.1)

pub block-same : {m m' n n' : ℕ} {A A' : List (List ℕ)} (b : Block) → m ≡ m' → n ≡ n' → A ≡ A' → IsBlock b m n A
    → IsBlock b m' n' A'
block-same b rows columns same is = record {
  rows_are = is.rows_are ∙ rows;
  columns_are = is.columns_are ∙ columns;
  matrix_is = is.matrix_is ∙ same;
}

pub transposed-block : (m n : ℕ) (A : List (List ℕ)) (a b : Block) → IsBlock a m n A
    → IsBlock b a.cols a.rows (transpose a.cols (matrix_of a)) → IsBlock b n m (transpose n A)
transposed-block m n A a b is t = record {
  rows_are = t.rows_are ∙ is.columns_are;
  columns_are = t.columns_are ∙ is.rows_are;
  matrix_is = t.matrix_is ∙ ap₂ transpose is.columns_are is.matrix_is;
}

pub matrix-same : (K : Ops) {m m' n n' : ℕ} {A A' : List (List ℕ)} → m ≡ m' → n ≡ n' → A ≡ A' → IsMatrix K m n A
    → IsMatrix K m' n' A'
matrix-same K {m} {m'} {n} {n'} {A} {A'} rows columns same h = subst (IsMatrix K m' n') same
    (subst (λ n. IsMatrix K m' n A) columns (subst (λ m. IsMatrix K m n A) rows h))

pub matrix-scalars : (K : Ops) (m n : ℕ) (b : Block) → Matrix K m n (matrix_of b) → AllScalars K b.entries
matrix-scalars K m n b h = subst (AllScalars K) (flat-cut b.rows b.cols b.entries b.full)
    (flat-scalars K m n (matrix_of b) h)

-- rows that a transposed block is added to
pub added-columns : (K : Ops) (h : List (List (List ℕ))) (k : ℕ) (columns moved coefficients : Block)
    (rows new : List (List ℕ)) (entries : List ℕ) → rows ≡ get_or h k [] → length (get_or h k []) ≡ columns.cols
    → columns.rows ≡ moved.rows
    → IsBlock coefficients columns.cols columns.rows (transpose columns.cols (matrix_of columns))
    → entries ≡ coefficients.entries
    → new ≡ with_product K moved.cols rows (cut (length rows) moved.rows entries) (matrix_of moved)
    → set h k new ≡ set h k (with_product K moved.cols (get_or h k []) (transpose columns.cols (matrix_of columns))
    (matrix_of moved))
added-columns K h k columns moved coefficients rows new entries is size heights block same e =
    ap (set h k) (e ∙ ap₂ (λ A B. with_product K moved.cols A B (matrix_of moved)) is
    (ap₂ (λ m xs. cut m moved.rows xs) (ap length is ∙ size ∙ sym block.rows_are) same
    ∙ ap (λ n. cut coefficients.rows n coefficients.entries) (sym heights ∙ sym block.columns_are)
    ∙ block.matrix_is))

-- a zero matrix for each degree is one for all
pub zeros-all : (v : BlockComplex) (h : List (List (List ℕ))) → AreLive v.live → length h ≡ 16
    → ((j : ℕ) → j < 16 → get_or h j [] ≡ zero_matrix (coordinates (complex_of v) j) (coordinates (complex_of v) (j + 1)))
    → (k : ℕ) → get_or h k [] ≡ zero_matrix (coordinates (complex_of v) k) (coordinates (complex_of v) (suc k))
zeros-all v h fits size are k = elim (cases_lt k 16) [
  | inl l ↦
      are k l
      ∙ ap (λ n. zero_matrix (coordinates (complex_of v) k) (coordinates (complex_of v) n)) (omega arith)
  | inr l ↦
      get_or_past h k [] (omega (arith, size, l))
      ∙ sym (ap (λ n. zero_matrix n (coordinates (complex_of v) (suc k)))
      (ap total_size (of_degree-none k v.live fits.degrees l)))
]

-- what a list holds once a member is set
pub members-set : {A : Type 0} (h new : List A) (d x : A) (i k : ℕ) → new ≡ set h i x → i ≡ k → k < length h
    → ((j : ℕ) → k ≢ j → get_or new j d ≡ get_or h j d) × (get_or new k d ≡ x)
members-set h new d x i k e same l = (
  λ j n. ap (λ xs. get_or xs j d) (e ∙ ap (λ i. set h i x) same) ∙ get_or-set_other h k j x d (λ f. n (sym f)),
  ap (λ xs. get_or xs k d) (e ∙ ap (λ i. set h i x) same) ∙ get_or-set_same h k x d l,
)
