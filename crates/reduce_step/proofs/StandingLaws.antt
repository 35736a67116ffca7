-- The footprint of a square block that stands fits, and its pivot stands.
use Rattle.std.proofs.Common.{◌≡◌, ℕ, Bool, true, false, ◌&&◌, ◌||◌, List, length, refl, sym, ap, ap₂, ◌∙◌, subst}
use Rattle.std.proofs.Common.{inl, inr, ◌⊎◌, [], ◌∷◌}
use Rattle.std.specs.Prelude.{◌==◌, not, is_some}
use Rattle.std.proofs.lemmas.Bool.{eq-eqb, eqb-true, ne_eqb, and_parts, or_parts}
use Rattle.dense_blocks.specs.Field.{Ops}
use Rattle.dense_blocks.specs.FieldLaws.{IsField}
use Rattle.dense_blocks.specs.Blocks.{matrix_of}
use Rattle.dense_blocks.proofs.Shapes.{matrix-size}
use Rattle.dense_blocks.proofs.BlockLaws.{block-size}
use Rattle.rising_lists.specs.Rising.{has, keys, entry_of}
use Rattle.block_complexes.specs.BlockComplexes.{AreConsecutive, IsBlockComplex, size_of}
use Rattle.block_sparse.specs.StoredBlocks.{StoredBlocks, StandsAt, complex_in, block_at, matrix, is_zero}
use Rattle.block_sparse.specs.Grids.{part, AreSized}
use Rattle.block_sparse.specs.Invariants.{IsSound}
use Rattle.block_sparse.proofs.ScalarBlocks.{block_at-between, row-between}
use Rattle.block_sparse.proofs.StoredLaws.{block_complex-full}
use Rattle.reduce_step.specs.declared.footprint.Footprint.{Footprint}
use Rattle.reduce_step.specs.Footprints.{IsFootprint}
use Rattle.reduce_step.specs.Differences.{sources, targets, is_copied, copied_matrix, listed_size, IsSized, IsLiveAs}
use Rattle.reduce_step.specs.Differences.{IsAsCopied, IsBeside, Fits}
use Rattle.reduce_step.proofs.ApplyLaws.{block-block_at}
use Rattle.reduce_step.proofs.PartLaws.{row-part, column-part}
use Rattle.reduce_step.proofs.JoinedParts.{listed_size-live}
use Rattle.reduce_step.proofs.JoinedScalars.{sized-live}
use Rattle.reduce_step.proofs.DifferenceLaws.{live-too, live-one, copied-at, not_x, not_y}

no-others : (b c : Bool) → false ≡ (b && not c) → c ≡ false → b ≡ false
no-others true c e f = let h : false ≡ true = e ∙ ap (λ c. true && not c) f in cc
no-others false c e f = refl

one-of-both : (a b : Bool) → (a || b) ≡ true → (a ≡ true) ⊎ (b ≡ true)
one-of-both true b e = inl refl
one-of-both false b e = inr e

and-first : (a b : Bool) → (a && b) ≡ false → b ≡ true → a ≡ false
and-first true b e f = sym f ∙ e
and-first false b e f = refl

module _ (K : Ops) (F : IsField K) (v : StoredBlocks) (sound : IsSound v.live v.rows v.columns)
    (is : IsBlockComplex K (complex_in v)) (foot : Footprint) (stands : is_some (block_at v foot.x foot.y) ≡ true)
    (square : size_of v.live foot.y ≡ size_of v.live foot.x) (h : IsFootprint v foot.x foot.y foot) where
  between : AreConsecutive v.live foot.x foot.y
  between = block_at-between v sound foot.x foot.y stands

  rows : foot.pivot.rows ≡ size_of v.live foot.y
  rows = sym (block-size foot.pivot) ∙ ap length h.pivot
      ∙ matrix-size K (size_of v.live foot.y) (size_of v.live foot.x) (matrix v foot.x foot.y)
      ((block_complex-full K F v sound is).shape foot.x foot.y)

  cols : foot.pivot.cols ≡ size_of v.live foot.x
  cols = sym foot.parts.square ∙ rows ∙ square

  pub pivot-stands : StandsAt v foot.x foot.y foot.pivot
  pivot-stands = record {
    fits = record { between = between; rows = rows; cols = cols };
    stands = stands;
    is_matrix = h.pivot;
    nonzero = ap is_zero h.pivot ∙ (row-between v sound foot.x foot.y
        (block-block_at (entry_of v.rows foot.y foot.x) (entry_of v.columns foot.x foot.y) stands)).nonzero;
  }

  listed-live : (ls : List (ℕ × ℕ)) → AreSized v.live ls → (c : ℕ) → has c (keys ls) ≡ true
      → IsSized v.live c (listed_size ls c)
  listed-live ls sized c m = (sized-live v.live ls sized c m, sym (listed_size-live v.live ls sized c m))

  source-live : (s : ℕ) → (foot.x == s) ≡ true ⊎ (has s (keys foot.left) ≡ true) → IsLiveAs v.live (sources foot) s
  source-live s (inl e) = subst (IsLiveAs v.live (sources foot)) (eqb-true foot.x s e)
      (live-one v.live foot.x foot.pivot.cols foot.left foot.parts.left_rises foot.parts.without_x
      (between.from, sym cols))
  source-live s (inr m) =
      live-too v.live foot.x foot.pivot.cols foot.left foot.parts.left_rises foot.parts.without_x s m
      (listed-live foot.left h.left_sized s m)

  target-live : (t : ℕ) → (foot.y == t) ≡ true ⊎ (has t (keys foot.below) ≡ true) → IsLiveAs v.live (targets foot) t
  target-live t (inl e) = subst (IsLiveAs v.live (targets foot)) (eqb-true foot.y t e)
      (live-one v.live foot.y foot.pivot.rows foot.below foot.parts.below_rises foot.parts.without_y
      (between.to, sym rows))
  target-live t (inr m) = live-too v.live foot.y foot.pivot.rows foot.below foot.parts.below_rises foot.parts.without_y
      t m (listed-live foot.below h.below_sized t m)

  -- the matrix of each copied pair
  copied : (s t : ℕ) → (foot.x == s) ≡ true ⊎ (has s (keys foot.left) ≡ true)
      → (foot.y == t) ≡ true ⊎ (has t (keys foot.below) ≡ true) → matrix v s t ≡ copied_matrix foot s t
  copied s t (inl e) (inl f) =
      ap₂ (λ s t. matrix v s t) (sym (eqb-true foot.x s e)) (sym (eqb-true foot.y t f)) ∙ sym h.pivot
      ∙ sym (copied-at v foot s t true true (eq-eqb s foot.x (sym (eqb-true foot.x s e)))
      (eq-eqb t foot.y (sym (eqb-true foot.y t f))))
  copied s t (inl e) (inr m) =
      ap (λ s. matrix v s t) (sym (eqb-true foot.x s e))
      ∙ sym (column foot.x t (eq-eqb foot.x foot.x refl) m)
      ∙ column-part foot.x (size_of v.live foot.x) foot.below foot.column t (foot.parts.column_cols ∙ cols)
      ∙ sym (copied-at v foot s t true false (eq-eqb s foot.x (sym (eqb-true foot.x s e))) (not_y v foot t m))
    where
      column : (p q : ℕ) → (foot.x == p) ≡ true → has q (keys foot.below) ≡ true
          → part ((foot.x, size_of v.live foot.x) ∷ []) foot.below (matrix_of foot.column) p q ≡ matrix v p q
      column p q e m = h.column p q (ap (λ b. b || false) e) m
  copied s t (inr m) (inl f) =
      ap (λ t. matrix v s t) (sym (eqb-true foot.y t f))
      ∙ sym (h.row s foot.y m (ap (λ b. b || false) (eq-eqb foot.y foot.y refl)))
      ∙ row-part foot.left foot.y (size_of v.live foot.y) foot.row s (foot.parts.row_rows ∙ rows)
      ∙ sym (copied-at v foot s t false true (not_x v foot s m) (eq-eqb t foot.y (sym (eqb-true foot.y t f))))
  copied s t (inr m) (inr n) =
      sym (h.corners s t m n)
      ∙ sym (copied-at v foot s t false false (not_x v foot s m) (not_y v foot t n))

  pub footprint-fits : Fits v foot
  footprint-fits s t = record { copied = as-copied; others = others }
    where
      as-copied : is_copied foot s t ≡ true → IsAsCopied v foot s t
      as-copied e =
          let p = and_parts (has s (keys (sources foot))) (has t (keys (targets foot))) e in
          let from = one-of-both (foot.x == s) (has s (keys foot.left)) p.0 in
          let to = one-of-both (foot.y == t) (has t (keys foot.below)) p.1 in
          record { from = source-live s from; to = target-live t to; matrix_is = copied s t from to }

      others : is_copied foot s t ≡ false → IsBeside v foot s t → is_some (block_at v s t) ≡ false
      others e b = go b.beside
        where
          go : (s ≡ foot.x) ⊎ (t ≡ foot.y) → is_some (block_at v s t) ≡ false
          go (inl x) =
              let n : (foot.y == t || has t (keys foot.below)) ≡ false =
              sym (ap (λ b. b && has t (keys (targets foot)))
              (ap (λ b. b || has s (keys foot.left)) (eq-eqb foot.x s (sym x)))) ∙ e in
              let p = or_parts (foot.y == t) (has t (keys foot.below)) n in
              ap (λ k. is_some (block_at v k t)) x
              ∙ no-others (is_some (block_at v foot.x t)) (t == foot.y) (sym p.1 ∙ h.below t)
              (ne_eqb t foot.y (λ q. let r : true ≡ false = sym (eq-eqb foot.y t (sym q)) ∙ p.0 in cc))
          go (inr y) =
              let n : (foot.x == s || has s (keys foot.left)) ≡ false =
              and-first (has s (keys (sources foot))) (has t (keys (targets foot))) e
              (ap (λ b. b || has t (keys foot.below)) (eq-eqb foot.y t (sym y))) in
              let p = or_parts (foot.x == s) (has s (keys foot.left)) n in
              ap (λ k. is_some (block_at v s k)) y
              ∙ no-others (is_some (block_at v s foot.y)) (s == foot.x) (sym p.1 ∙ h.left s)
              (ne_eqb s foot.x (λ q. let r : true ≡ false = sym (eq-eqb foot.x s (sym q)) ∙ p.0 in cc))
