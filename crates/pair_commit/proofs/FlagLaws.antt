-- Flags stand at singular blocks, after a removal and after a mark; where each square block has one, nothing can be
-- removed.
use Rattle.std.proofs.Common.{◌≡◌, ℕ, Bool, true, false, ◌&&◌, cond, Option, Some, None, List, refl, sym, ap, ap₂}
use Rattle.std.proofs.Common.{◌∙◌, subst}
use Rattle.std.specs.Prelude.{◌==◌, not, if◌then◌else◌, MatchOption}
use Rattle.std.specs.Option.{is_some}
use Rattle.std.proofs.lemmas.Bool.{eq-eqb, eqb-true}
use Rattle.dense_blocks.specs.Field.{Ops}
use Rattle.dense_blocks.specs.FieldLaws.{IsField}
use Rattle.dense_blocks.specs.MatrixFacts.{IsInverse, zero_matrix}
use Rattle.dense_blocks.specs.Blocks.{matrix_of}
use Rattle.dense_blocks.specs.declared.block.Block.{Block}
use Rattle.dense_blocks.specs.Inverses.{InKernel}
use Rattle.dense_blocks.proofs.Shapes.{Matrix}
use Rattle.dense_blocks.proofs.BlockLaws.{block-matrix_at}
use Rattle.dense_blocks.proofs.InverseLaws.{kernel-no_inverse}
use Rattle.rising_lists.specs.Rising.{has}
use Rattle.block_complexes.specs.BlockComplexes.{AreBothLive, AreConsecutive, HaveSameMatrices, IsBlockComplex}
use Rattle.block_complexes.specs.BlockComplexes.{cells, size_of}
use Rattle.block_complexes.proofs.FullLaws.{IsFull}
use Rattle.removals.specs.Removals.{IsRemoval, corner, is_corner}
use Rattle.removals.specs.Reductions.{IsInverseAt, IsIrreducible}
use Rattle.removals.proofs.CornerLaws.{corner-zero_row, corner-zero_column, inverse-shape}
use Rattle.removals.proofs.RemovalLaws.{left-size}
use Rattle.block_sparse.specs.StoredBlocks.{StoredBlocks, StoredBlock, StandsAt, complex_in, block_at, matrix}
use Rattle.block_sparse.specs.StoredBlocks.{matrix_or, flag_of, with_flag}
use Rattle.block_sparse.specs.Candidates.{is_unflagged}
use Rattle.block_sparse.specs.Flags.{KeepsFlags}
use Rattle.block_sparse.specs.Invariants.{IsSound}
use Rattle.block_sparse.proofs.ScalarBlocks.{block_at-between, matrix-none, not-block_at}
use Rattle.block_sparse.proofs.StoredLaws.{block_complex-full, standing-scalars}
use Rattle.pair_find.specs.Pairs.{IsNextFrom}
use Rattle.reduce_step.proofs.FitLaws.{zero-no_inverse}
use Rattle.reduce_step.proofs.DifferenceLaws.{live-size}
use Rattle.pair_commit.specs.Slots.{FlagsAreSingular, IsTried}

-- a flag stands on a block
flag-block_at : (o : Option StoredBlock) → flag_of o ≡ true → is_some o ≡ true
flag-block_at None e = cc
flag-block_at (Some b) e = refl

module _ (K : Ops) (F : IsField K) (v : StoredBlocks) (sound : IsSound v.live v.rows v.columns)
    (is : IsBlockComplex K (complex_in v)) (x y : ℕ) (a : List (List ℕ)) (w : StoredBlocks)
    (removal : IsRemoval K (complex_in v) x y a (complex_in w)) (kept : KeepsFlags v x y w) where
  full : IsFull K (complex_in v)
  full = block_complex-full K F v sound is

  shape : Matrix K (size_of v.live x) (size_of v.live y) a
  shape = inverse-shape K F (complex_in v) full x y a (complex_in w) removal

  left-sized : (c : ℕ) → has c (cells w.live) ≡ true → size_of w.live c ≡ size_of v.live c
  left-sized c h = left-size K F (complex_in v) full x y a (complex_in w) removal c h

  -- a block that keeps its flag is the one that stood there
  module _ (singular : FlagsAreSingular K v) (s t : ℕ) (flag : flag_of (block_at w s t) ≡ true)
      (inverse : List (List ℕ)) (i : IsInverseAt K (complex_in w) s t inverse) where
    live : AreBothLive w.live s t
    live = record { from = i.pair.from; to = i.pair.to }

    abbrev Stays : Type 0
    Stays = corner K (complex_in v) x y a s t ≡ matrix v s t

    stays : (b : Bool) → Stays → cond b (corner K (complex_in v) x y a s t) (matrix v s t) ≡ matrix v s t
    stays true e = e
    stays false e = refl

    was : Stays → flag_of (block_at v s t) ≡ true → ⊥
    was e f =
        let size-s = left-sized s live.from in
        singular s t f (
          inverse,
          record {
            pair = block_at-between v sound s t (flag-block_at (block_at v s t) f);
            square = sym (left-sized t live.to) ∙ i.square ∙ size-s;
            inverse = subst (λ n. IsInverse K n (matrix v s t) inverse) size-s
                (subst (λ A. IsInverse K (size_of w.live s) A inverse)
                (removal.matrices s t live ∙ stays (is_corner v.live x y s t) e) i.inverse);
          },
        )

    kept-flag : (p q : Bool) → is_some (block_at v s y) ≡ p → is_some (block_at v x t) ≡ q
        → cond (p && q) false (flag_of (block_at v s t)) ≡ true
    kept-flag p q e f =
        sym (ap₂ (λ p q. cond (p && q) false (flag_of (block_at v s t))) e f) ∙ sym (kept s t live) ∙ flag

    not-singular : (p q : Bool) → is_some (block_at v s y) ≡ p → is_some (block_at v x t) ≡ q → ⊥
    not-singular true true e f = let h : false ≡ true = kept-flag true true e f in cc
    not-singular true false e f =
        was (corner-zero_column K F (complex_in v) full x y a shape s t
        (matrix-none K v x t (not-block_at (block_at v x t) f))) (kept-flag true false e f)
    not-singular false q e f =
        was (corner-zero_row K F (complex_in v) full x y a shape s t
        (matrix-none K v s y (not-block_at (block_at v s y) e))) (kept-flag false q e f)

  pub flags-removed : FlagsAreSingular K v → FlagsAreSingular K w
  flags-removed singular s t flag invertible =
      not-singular singular s t flag invertible.0 invertible.1 (is_some (block_at v s y)) (is_some (block_at v x t))
      refl refl

-- where each square block has a flag, no pair may be removed
pub tried-irreducible : (K : Ops) → IsField K → (v : StoredBlocks) → IsSound v.live v.rows v.columns
    → FlagsAreSingular K v → IsTried v → IsIrreducible K (complex_in v)
tried-irreducible K F v sound singular tried s t invertible = go (block_at v s t) refl
  where
    go : (o : Option StoredBlock) → block_at v s t ≡ o → ⊥
    go None e =
        let i = invertible.1 in
        zero-no_inverse K F (size_of v.live s) invertible.0 (live-size v.live s sound.live_cells i.pair.from)
        (subst (λ A. IsInverse K (size_of v.live s) A invertible.0)
        (matrix-none K v s t e ∙ ap (λ m. zero_matrix m (size_of v.live s)) i.square) i.inverse)
    go (Some b) e =
        singular s t
        (ap flag_of e ∙ flagged b.flagged (sym (ap₂ (λ o c. is_unflagged o && c) e
        (eq-eqb (size_of v.live s) (size_of v.live t) (sym invertible.1.square))) ∙ tried s t))
        invertible
      where
        flagged : (f : Bool) → (not f && true) ≡ false → f ≡ true
        flagged true e = refl
        flagged false e = let h : true ≡ false = e in cc

-- the matrix under a flag that is set
marked-matrix : (o : Option StoredBlock) (A : List (List ℕ)) → matrix_or (with_flag o) A ≡ matrix_or o A
marked-matrix None A = refl
marked-matrix (Some b) A = refl

-- one flag more
pub record IsFlagged (v w : StoredBlocks) (s t : ℕ) : Type 0 where
  pub live : w.live ≡ v.live
  pub blocks : (p q : ℕ) → block_at w p q ≡ (if p == s && q == t then with_flag (block_at v s t) else block_at v p q)

module _ (v w : StoredBlocks) (s t : ℕ) (h : IsFlagged v w s t) where
  flagged-matrix : (p q : ℕ) → matrix w p q ≡ matrix v p q
  flagged-matrix p q =
      ap₂ (λ o l. matrix_or o (zero_matrix (size_of l q) (size_of l p))) (h.blocks p q) h.live
      ∙ go (p == s) (q == t) refl refl
    where
      zero : List (List ℕ)
      zero = zero_matrix (size_of v.live q) (size_of v.live p)

      go : (b c : Bool) → (p == s) ≡ b → (q == t) ≡ c
          → matrix_or (cond (b && c) (with_flag (block_at v s t)) (block_at v p q)) zero ≡ matrix v p q
      go true true e f =
          marked-matrix (block_at v s t) zero
          ∙ ap₂ (λ i j. matrix_or (block_at v i j) zero) (sym (eqb-true p s e)) (sym (eqb-true q t f))
      go true false e f = refl
      go false c e f = refl

  pub flagged-same : HaveSameMatrices (complex_in v) (complex_in w)
  flagged-same = record { live = h.live; matrices = λ p q l. flagged-matrix p q }

  -- where the block is shown to be singular
  pub flagged-singular : (K : Ops) → IsField K → IsBlockComplex K (complex_in v) → FlagsAreSingular K v
      → (b : Block) (kernel : List ℕ) → StandsAt v s t b → b.rows ≡ b.cols
      → InKernel K b.rows (matrix_of b) kernel → FlagsAreSingular K w
  flagged-singular K F is singular b kernel stands square in_kernel p q flag invertible = go (p == s) (q == t) refl refl
    where
      there : p ≡ s → q ≡ t → ⊥
      there e f =
          let i = invertible.1 in
          let size : size_of w.live p ≡ b.rows = ap₂ size_of h.live e ∙ sym stands.fits.cols ∙ sym square in
          let same : matrix w p q ≡ matrix_of b = flagged-matrix p q ∙ ap₂ (matrix v) e f ∙ sym stands.is_matrix in
          kernel-no_inverse K F b.rows (matrix_of b)
          (block-matrix_at K b b.rows b.rows refl (sym square) (standing-scalars K v is s t b stands)) kernel
          invertible.0 in_kernel
          (subst (λ A. IsInverse K b.rows A invertible.0) same
          (subst (λ n. IsInverse K n (matrix w p q) invertible.0) size i.inverse))

      elsewhere : block_at w p q ≡ block_at v p q → ⊥
      elsewhere e =
          let i = invertible.1 in
          singular p q (sym (ap flag_of e) ∙ flag) (
            invertible.0,
            record {
              pair = subst (λ l. AreConsecutive l p q) h.live i.pair;
              square = subst (λ l. size_of l q ≡ size_of l p) h.live i.square;
              inverse = subst (λ A. IsInverse K (size_of v.live p) A invertible.0) (flagged-matrix p q)
                  (subst (λ l. IsInverse K (size_of l p) (matrix w p q) invertible.0) h.live i.inverse);
            },
          )

      go : (b c : Bool) → (p == s) ≡ b → (q == t) ≡ c → ⊥
      go true true e f = there (eqb-true p s e) (eqb-true q t f)
      go true false e f = elsewhere (h.blocks p q
          ∙ ap₂ (λ b c. cond (b && c) (with_flag (block_at v s t)) (block_at v p q)) e f)
      go false c e f = elsewhere (h.blocks p q
          ∙ ap (λ b. cond (b && (q == t)) (with_flag (block_at v s t)) (block_at v p q)) e)

-- no candidate was found
pub none-found : (v : StoredBlocks) (o : Option (ℕ × ℕ)) (r : Bool) → MatchOption o (IsTried v) (IsNextFrom v (0, 0))
    → is_some o ≡ not r → r ≡ true → IsTried v
none-found v None r h e is = h
none-found v (Some p) r h e is = absurd (let f : true ≡ false = e ∙ ap not is in cc)
