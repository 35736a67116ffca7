-- A removal from the same block complex, one that leaves the same, and two removals of one pair.
use Rattle.std.proofs.Common.{◌≡◌, ℕ, true, cond, List, sym, ap, ap₂, ◌∙◌, subst}
use Rattle.dense_blocks.specs.Field.{Ops}
use Rattle.dense_blocks.specs.Matrices.{product}
use Rattle.dense_blocks.specs.MatrixFacts.{matrix_negative, matrix_sum, IsInverse}
use Rattle.rising_lists.specs.Rising.{has}
use Rattle.block_complexes.specs.BlockComplexes.{BlockComplex, AreBothLive, HaveSameMatrices, cells, size_of}
use Rattle.block_complexes.proofs.SameLaws.{with-live}
use Rattle.removals.specs.Removals.{IsRemoval, corner, is_corner}
use Rattle.removals.proofs.CornerLaws.{has-without}

module _ (K : Ops) (v : BlockComplex) (x y : ℕ) (a : List (List ℕ)) where
  -- cells that are left were live
  pub both-before : (w : BlockComplex) → IsRemoval K v x y a w → (s t : ℕ) → AreBothLive w.live s t
      → AreBothLive v.live s t
  both-before w removal s t l = record { from = was s l.from; to = was t l.to }
    where
      was : (c : ℕ) → has c (cells w.live) ≡ true → has c (cells v.live) ≡ true
      was c h = (has-without x y v.live c (subst (λ live. has c (cells live) ≡ true) removal.live h)).0

  -- a removal that leaves the same
  pub removal-same-after : (w m : BlockComplex) → HaveSameMatrices w m → IsRemoval K v x y a w → IsRemoval K v x y a m
  removal-same-after w m h removal = with-live (λ m. IsRemoval K v x y a m) m w.live h.live (record {
    pair = removal.pair;
    square = removal.square;
    inverse = removal.inverse;
    live = removal.live;
    matrices = λ s t l. h.matrices s t l ∙ removal.matrices s t l;
  })

  -- two removals of one pair by one inverse leave the same
  pub removal-one : (w m : BlockComplex) → IsRemoval K v x y a w → IsRemoval K v x y a m → HaveSameMatrices w m
  removal-one w m r q = record {
    live = q.live ∙ sym r.live;
    matrices = λ s t l. q.matrices s t (subst (λ live. AreBothLive live s t) (r.live ∙ sym q.live) l)
        ∙ sym (r.matrices s t l);
  }

pub removal-same-before : (K : Ops) (v m : BlockComplex) (x y : ℕ) (a : List (List ℕ)) (w : BlockComplex)
    → HaveSameMatrices v m → IsRemoval K v x y a w
    → IsRemoval K m x y a w
removal-same-before K v m x y a w h removal = with-live (λ m. IsRemoval K m x y a w) m v.live h.live (record {
  pair = removal.pair;
  square = removal.square;
  inverse =
      subst (λ A. IsInverse K (size_of v.live x) A a)
      (sym (h.matrices x y (record { from = removal.pair.from; to = removal.pair.to }))) removal.inverse;
  live = removal.live;
  matrices = λ s t l.
      let b = both-before K v x y a w removal s t l in
      removal.matrices s t l ∙ ap₂ (cond (is_corner v.live x y s t)) (sym (same-corner s t b)) (sym (h.matrices s t b));
})
  where
    same-corner : (s t : ℕ) → AreBothLive v.live s t → corner K (record { live = v.live; matrix = m.matrix }) x y a s t
        ≡ corner K v x y a s t
    same-corner s t l =
        let n = size_of v.live s in
        let made : List (List ℕ) → List (List ℕ) → List (List ℕ) → List (List ℕ) =
        λ A B C. matrix_sum K A (matrix_negative K (product K n B (product K n a C))) in
        ap (λ A. made A (m.matrix x t) (m.matrix s y)) (h.matrices s t l)
        ∙ ap₂ (made (v.matrix s t)) (h.matrices x t (record { from = removal.pair.from; to = l.to }))
        (h.matrices s y (record { from = l.from; to = removal.pair.to }))
