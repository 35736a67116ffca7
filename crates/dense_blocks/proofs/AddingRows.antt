-- A combination that a loop adds up row by row.
use Rattle.std.proofs.Common.{◌≡◌, ℕ, suc, ◌+◌, ◌*◌, ◌-◌, ◌<◌, List, ◌++◌, length, take, drop, get_or, sym, ap, ◌∙◌}
use Rattle.std.proofs.Common.{subst, arith, length-drop}
use Rattle.std.proofs.lemmas.List.{drop_more, length-take-le, drop_all}
use Rattle.std.proofs.lemmas.List.Elements.{All-take, All-drop}
use Rattle.std.specs.List.{refill}
use borrow.Rule.Slice.PartMut.{post_of}
use Rattle.dense_blocks.specs.Field.{Ops}
use Rattle.dense_blocks.specs.FieldLaws.{IsField}
use Rattle.dense_blocks.specs.Vectors.{AllScalars, zeros, plus, multiple, combination}
use Rattle.dense_blocks.specs.Matrices.{cut}
use Rattle.dense_blocks.proofs.Shapes.{Vector, vector_of, vector-size}
use Rattle.dense_blocks.proofs.VectorLaws.{plus-assoc, plus-zeros, zeros-plus, zeros-size, plus-vector, multiple-vector}
use Rattle.dense_blocks.proofs.VectorLaws.{combination-vector}
use Rattle.dense_blocks.proofs.Cutting.{cut-matrix}
use Rattle.dense_blocks.proofs.Tails.{tail_of, tail-read, tail-written}

-- at the coefficient i: the target and the combination of the rest make the whole
pub record AddsUp (K : Ops) (n : ℕ) (start cs rows : List ℕ) (i : ℕ) (target rest : List ℕ) : Type 0 where
  pub whole : plus K target (combination K n (drop i cs) (cut (length cs - i) n rest))
      ≡ plus K start (combination K n cs (cut (length cs) n rows))
  pub width : length target ≡ n
  pub left : length rest ≡ (length cs - i) * n
  pub target_scalars : AllScalars K target
  pub rest_scalars : AllScalars K rest

module _ (K : Ops) (F : IsField K) where
  adds_up-next_row : (n : ℕ) (start cs rows : List ℕ) (i : ℕ) (target rest target' : List ℕ)
      → AddsUp K n start cs rows i target rest → i < length cs
      → target' ≡ plus K target (multiple K (get_or cs i 0) (take n rest)) → AllScalars K target'
      → AddsUp K n start cs rows (i + 1) target' (drop n rest)
  adds_up-next_row n start cs rows i target rest target' h l now scalars =
      let c : ℕ = get_or cs i 0 in
      let m : ℕ = length cs - (i + 1) in
      let more : length cs - i ≡ suc m = omega arith in
      let size : length rest ≡ suc m * n = h.left ∙ ap (λ k. k * n) more in
      let row : Vector K n (take n rest) = vector_of K n (take n rest) (length-take-le n rest (omega arith))
      (All-take (λ a. a < K.order) n rest h.rest_scalars) in
      let target_is : Vector K n target = vector_of K n target h.width h.target_scalars in
      let later : List ℕ = combination K n (drop (i + 1) cs) (cut m n (drop n rest)) in
      record {
        whole =
            ap (λ t. plus K t later) now
            ∙ plus-assoc K F target (multiple K c (take n rest)) later
            ∙ ap (λ ds. plus K target (combination K n ds (cut (suc m) n rest))) (sym (drop_more cs i 0 l))
            ∙ ap (λ k. plus K target (combination K n (drop i cs) (cut k n rest))) (sym more)
            ∙ h.whole;
        width = ap length now ∙ vector-size K n (plus K target (multiple K c (take n rest)))
            (plus-vector K F n target (multiple K c (take n rest)) target_is
            (multiple-vector K F n c (take n rest) row));
        left = length-drop n rest ∙ (omega (arith, size));
        target_scalars = scalars;
        rest_scalars = All-drop (λ a. a < K.order) n rest h.rest_scalars;
      }

  pub adds_up-next : (n : ℕ) (start cs rows : List ℕ) (i : ℕ) (target rest : List ℕ) (row later target' : List ℕ)
      → AddsUp K n start cs rows i target rest → i < length cs → row ≡ take n rest → later ≡ drop n rest
      → target' ≡ plus K target (multiple K (get_or cs i 0) row) → AllScalars K target'
      → AddsUp K n start cs rows (i + 1) target' later
  adds_up-next n start cs rows i target rest row later target' h l is_row is_later now scalars =
      subst (AddsUp K n start cs rows (i + 1) target') (sym is_later)
      (adds_up-next_row n start cs rows i target rest target' h l
      (now ∙ ap (λ r. plus K target (multiple K (get_or cs i 0) r)) is_row) scalars)

  pub adds_up-end : (n : ℕ) (start cs rows : List ℕ) (target rest : List ℕ) (i : ℕ)
      → AddsUp K n start cs rows i target rest → i ≡ length cs
      → target ≡ plus K start (combination K n cs (cut (length cs) n rows))
  adds_up-end n start cs rows target rest i h e =
      sym (plus-zeros K F n target (vector_of K n target h.width h.target_scalars))
      ∙ ap (λ ds. plus K target (combination K n ds (cut (length cs - i) n rest))) (sym (drop_all i cs (omega arith)))
      ∙ h.whole

  -- a combination added to the zeros at the end of a list stands there
  pub combination-written : (n : ℕ) (cs rows before items xs target : List ℕ) (start : ℕ)
      → xs ≡ items → items ≡ before ++ zeros n → start ≡ length before → length rows ≡ length cs * n → AllScalars K rows
      → target ≡ plus K (tail_of start xs)
      (combination K (length (tail_of start xs)) cs (cut (length cs) (length (tail_of start xs)) rows))
      → refill (length items) items (take start xs ++ (target ++ post_of start (length xs - start) xs)) ≡ before
      ++ combination K n cs (cut (length cs) n rows)
  combination-written n cs rows before items xs target start same e s size scalars now =
      let whole : xs ≡ before ++ zeros n = same ∙ e in
      let tail : tail_of start xs ≡ zeros n = tail-read xs before (zeros n) start whole s in
      let width : length (tail_of start xs) ≡ n = ap length tail ∙ zeros-size n in
      let is : Vector K n (combination K n cs (cut (length cs) n rows)) =
      combination-vector K F (length cs) n cs (cut (length cs) n rows) (cut-matrix K (length cs) n rows size scalars) in
      let target_is : target ≡ combination K n cs (cut (length cs) n rows) =
      now ∙ ap (λ t. plus K t (combination K (length (tail_of start xs)) cs
      (cut (length cs) (length (tail_of start xs)) rows))) tail
      ∙ ap (λ k. plus K (zeros n) (combination K k cs (cut (length cs) k rows))) width
      ∙ zeros-plus K F n (combination K n cs (cut (length cs) n rows)) is in
      tail-written items xs before (zeros n) target start same whole s
      (ap length target_is ∙ vector-size K n (combination K n cs (cut (length cs) n rows)) is ∙ sym (zeros-size n))
      ∙ ap (λ t. before ++ t) target_is
