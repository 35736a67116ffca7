-- A removal by what stands at each pair: a block is put at the corners where blocks from s to y and from x to t have
-- stood, and nothing changes elsewhere.
use Rattle.std.proofs.Common.{◌≡◌, ℕ, Bool, true, false, cond, ◌&&◌, List, refl, sym, ap, ap₂, ◌∙◌, subst, arith}
use Rattle.std.specs.Option.{is_some}
use Rattle.std.proofs.lemmas.Bool.{eq-eqb}
use Rattle.dense_blocks.specs.Field.{Ops}
use Rattle.dense_blocks.specs.FieldLaws.{IsField}
use Rattle.dense_blocks.specs.MatrixFacts.{zero_matrix, IsInverse}
use Rattle.dense_blocks.proofs.Shapes.{Matrix, to_matrix}
use Rattle.rising_lists.specs.Rising.{has}
use Rattle.block_complexes.specs.BlockComplexes.{AreConsecutive, cells, degree_of, size_of, IsBlockComplex}
use Rattle.block_sparse.specs.StoredBlocks.{StoredBlocks, block_at, matrix, matrix_or, flag_of, complex_in}
use Rattle.block_sparse.specs.Grids.{as_block}
use Rattle.block_sparse.specs.Invariants.{IsSound}
use Rattle.block_sparse.proofs.ScalarBlocks.{block_at-between, matrix-none, not-block_at}
use Rattle.block_sparse.proofs.StoredLaws.{block_complex-full, matrix-as_block, flag-as_block}
use Rattle.removals.specs.Removals.{corner, is_corner, live_without, IsRemoval}
use Rattle.block_sparse.specs.Flags.{KeepsFlags}
use Rattle.removals.proofs.CornerLaws.{has-without, of_cell-without, corner-shape, corner-zero_row, corner-zero_column}

module _ (K : Ops) (F : IsField K) (v : StoredBlocks) (sound : IsSound v.live v.rows v.columns)
    (over : IsBlockComplex K (complex_in v))
    (x y : ℕ) (a : List (List ℕ)) (w : StoredBlocks) (pair : AreConsecutive v.live x y)
    (square : size_of v.live y ≡ size_of v.live x)
    (inverse : IsInverse K (size_of v.live x) (matrix v x y) a) (live : w.live ≡ live_without v.live x y)
    (written : (s t : ℕ) → has s (cells w.live) ≡ true → has t (cells w.live) ≡ true
    → block_at w s t ≡ cond (is_some (block_at v s y) && is_some (block_at v x t))
    (as_block (corner K (complex_in v) x y a s t)) (block_at v s t)) where
  abbrev size : ℕ → ℕ
  size c = size_of v.live c

  same-size : (c : ℕ) → has c (cells w.live) ≡ true → size_of w.live c ≡ size c
  same-size c h =
      ap (λ l. size_of l c) live
      ∙ of_cell-without x y (λ l. l.2) v.live c
      (has-without x y v.live c (subst (λ l. has c (cells l) ≡ true) live h)).1

  a-shape : Matrix K (size x) (size y) a
  a-shape = subst (λ n. Matrix K (size x) n a) (sym square) (to_matrix K (size x) (size x) a inverse.shape)

  corner-matrices : (s t : ℕ) → has s (cells w.live) ≡ true → has t (cells w.live) ≡ true
      → matrix w s t ≡ cond (is_corner v.live x y s t) (corner K (complex_in v) x y a s t) (matrix v s t)
  corner-matrices s t hs ht =
      ap₂ (λ m n. matrix_or (block_at w s t) (zero_matrix m n)) (same-size t ht) (same-size s hs)
      ∙ ap (λ o. matrix_or o (zero_matrix (size t) (size s))) (written s t hs ht)
      ∙ go (is_some (block_at v s y)) (is_some (block_at v x t)) refl refl
    where
      stays : (b : Bool) → corner K (complex_in v) x y a s t ≡ matrix v s t
          → matrix v s t ≡ cond b (corner K (complex_in v) x y a s t) (matrix v s t)
      stays true e = sym e
      stays false e = refl

      go : (p q : Bool) → is_some (block_at v s y) ≡ p → is_some (block_at v x t) ≡ q
          → matrix_or (cond (p && q) (as_block (corner K (complex_in v) x y a s t)) (block_at v s t))
          (zero_matrix (size t) (size s))
          ≡ cond (is_corner v.live x y s t) (corner K (complex_in v) x y a s t) (matrix v s t)
      go true true e f =
          let from_s = (block_at-between v sound s y e).degrees in
          let to_t = (block_at-between v sound x t f).degrees in
          matrix-as_block K (size t) (size s) (corner K (complex_in v) x y a s t)
          (corner-shape K F (complex_in v) (block_complex-full K F v sound over) x y a a-shape s t)
          ∙ sym (ap (λ b. cond b (corner K (complex_in v) x y a s t) (matrix v s t))
          (ap₂ ◌&&◌ (eq-eqb (degree_of v.live s) (degree_of v.live x) (omega (arith, from_s, pair.degrees)))
          (eq-eqb (degree_of v.live t) (degree_of v.live y) (to_t ∙ sym pair.degrees))))
      go true false e f = stays (is_corner v.live x y s t)
          (corner-zero_column K F (complex_in v) (block_complex-full K F v sound over) x y a a-shape s t
          (matrix-none K v x t (not-block_at (block_at v x t) f)))
      go false q e f = stays (is_corner v.live x y s t)
          (corner-zero_row K F (complex_in v) (block_complex-full K F v sound over) x y a a-shape s t
          (matrix-none K v s y (not-block_at (block_at v s y) e)))

  pub written-removal : IsRemoval K (complex_in v) x y a (complex_in w)
  written-removal = record {
    pair = pair;
    square = square;
    inverse = inverse;
    live = live;
    matrices = λ s t l.
        corner-matrices s t l.from l.to;
  }

  pub written-flags : KeepsFlags v x y w
  written-flags s t l = ap flag_of (written s t l.from l.to) ∙ go (is_some (block_at v s y) && is_some (block_at v x t))
    where
      go : (b : Bool) → flag_of (cond b (as_block (corner K (complex_in v) x y a s t)) (block_at v s t))
          ≡ cond b false (flag_of (block_at v s t))
      go true = flag-as_block (corner K (complex_in v) x y a s t)
      go false = refl
