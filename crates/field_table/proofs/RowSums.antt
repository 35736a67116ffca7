-- Multiples of rows added one after another, modulo q.
use Rattle.std.proofs.Common.{◌≡◌, ℕ, zero, suc, ◌+◌, ◌*◌, ◌%◌, ◌<◌, ◌≤◌, List, [], ◌∷◌, length, take, drop, get_or}
use Rattle.std.proofs.Common.{refl, sym, ap, ap₂, ◌∙◌, arith, length-drop}
use Rattle.std.proofs.lemmas.List.{drop_more, drop_all, drop-drop, take-take, drop-take, length-take-le, length-map}
use Rattle.std.proofs.lemmas.List.Elements.{All-take, All-drop}
use Rattle.std.proofs.Math.Nat.{add-mod, mod-eq_of_lt, zero-mul, zero-mod, add-zero}
use Rattle.dense_blocks.specs.Field.{Ops}
use Rattle.dense_blocks.specs.FieldLaws.{IsField}
use Rattle.dense_blocks.specs.Vectors.{AllScalars, zeros, plus, multiple, combination}
use Rattle.dense_blocks.specs.Matrices.{cut}
use Rattle.dense_blocks.proofs.Shapes.{Vector, vector_of}
use Rattle.dense_blocks.proofs.VectorLaws.{plus-assoc, plus-zeros, plus-vector, multiple-vector}
use Rattle.dense_blocks.proofs.RowSteps.{length-plus, plus-multiple-at}
use Rattle.field_table.specs.Modular.{modulo}
use Rattle.field_table.specs.ModularFacts.{plus_rows}
use Rattle.field_table.proofs.Remainders.{plus-scalars}

-- in a field that is the combination
pub plus_rows-combination : (K : Ops) → IsField K → (n : ℕ) (u cs rows : List ℕ) → Vector K n u
    → length rows ≡ length cs * n → AllScalars K rows
    → plus_rows K n u cs rows ≡ plus K u (combination K n cs (cut (length cs) n rows))
plus_rows-combination K F n u [] rows h size scalars = sym (plus-zeros K F n u h)
plus_rows-combination K F n u (c ∷ cs) rows h size scalars =
    let row : Vector K n (take n rows) = vector_of K n (take n rows) (length-take-le n rows (omega arith))
    (All-take (λ a. a < K.order) n rows scalars) in
    plus_rows-combination K F n (plus K u (multiple K c (take n rows))) cs (drop n rows)
    (plus-vector K F n u (multiple K c (take n rows)) h (multiple-vector K F n c (take n rows) row))
    (omega (arith, length-drop n rows)) (All-drop (λ a. a < K.order) n rows scalars)
    ∙ plus-assoc K F u (multiple K c (take n rows)) (combination K n cs (cut (length cs) n (drop n rows)))

module _ (K : Ops) (n : ℕ) where
  -- the first j rows, and then the others
  pub plus_rows-split : (j : ℕ) (u cs rows : List ℕ)
      → plus_rows K n (plus_rows K n u (take j cs) (take (j * n) rows)) (drop j cs) (drop (j * n) rows)
      ≡ plus_rows K n u cs rows
  plus_rows-split zero u cs rows =
      let none : zero * n ≡ 0 = omega arith in ap (λ k. plus_rows K n u cs (drop k rows)) none
  plus_rows-split (suc j) u [] rows = refl
  plus_rows-split (suc j) u (c ∷ cs) rows =
      let more : suc j * n ≡ n + j * n = omega arith in
      ap (λ k. plus_rows K n (plus_rows K n (plus K u (multiple K c (take n (take k rows)))) (take j cs)
      (drop n (take k rows))) (drop j cs) (drop k rows)) more
      ∙ ap₂ (λ r t. plus_rows K n (plus_rows K n (plus K u (multiple K c r)) (take j cs) t) (drop j cs)
      (drop (n + j * n) rows)) (take-take n (n + j * n) rows (omega arith)) (drop-take n (j * n) rows)
      ∙ ap (plus_rows K n (plus_rows K n (plus K u (multiple K c (take n rows))) (take j cs)
      (take (j * n) (drop n rows))) (drop j cs)) (sym (drop-drop (j * n) n rows))
      ∙ plus_rows-split j (plus K u (multiple K c (take n rows))) cs (drop n rows)

  -- one row more
  pub plus_rows-next : (i : ℕ) (whole cs target rest row later target' : List ℕ) → i < length cs → row ≡ take n rest
      → later ≡ drop n rest → target' ≡ plus K target (multiple K (get_or cs i 0) row)
      → plus_rows K n target (drop i cs) rest ≡ whole → plus_rows K n target' (drop (i + 1) cs) later ≡ whole
  plus_rows-next i whole cs target rest row later target' l is_row is_later now h =
      ap₂ (λ t r. plus_rows K n t (drop (i + 1) cs) r)
      (now ∙ ap (λ r. plus K target (multiple K (get_or cs i 0) r)) is_row) is_later
      ∙ ap (λ ks. plus_rows K n target ks rest) (sym (drop_more cs i 0 l)) ∙ h

  -- no row is left
  pub plus_rows-all : (i : ℕ) (whole cs target rest : List ℕ) → length cs ≤ i
      → plus_rows K n target (drop i cs) rest ≡ whole → target ≡ whole
  plus_rows-all i whole cs target rest l h = ap (λ ks. plus_rows K n target ks rest) (sym (drop_all i cs l)) ∙ h

-- the entry at i, without a remainder, where it was x
abbrev pub whole_at : ℕ → ℕ → ℕ → List ℕ → List ℕ → ℕ
whole_at n i x [] rows = x
whole_at n i x (c ∷ cs) rows = whole_at n i (x + c * get_or (take n rows) i 0) cs (drop n rows)

module _ (q n : ℕ) where
  pub plus_rows-scalars : 0 < q → (u cs rows : List ℕ) → AllScalars (modulo q) u
      → AllScalars (modulo q) (plus_rows (modulo q) n u cs rows)
  plus_rows-scalars l u [] rows h = h
  plus_rows-scalars l u (c ∷ cs) rows h =
      plus_rows-scalars l (plus (modulo q) u (multiple (modulo q) c (take n rows))) cs (drop n rows)
      (plus-scalars q l u (multiple (modulo q) c (take n rows)))

  -- one remainder for all products and their sum
  pub plus_rows-at : (i x : ℕ) (u cs rows : List ℕ) → length u ≡ n → length rows ≡ length cs * n → i < n
      → get_or u i 0 ≡ x % q → get_or (plus_rows (modulo q) n u cs rows) i 0 ≡ whole_at n i x cs rows % q
  plus_rows-at i x u [] rows e size l h = h
  plus_rows-at i x u (c ∷ cs) rows e size l h =
      let row : List ℕ = take n rows in
      let wide : length row ≡ length u = length-take-le n rows (omega arith) ∙ sym e in
      plus_rows-at i (x + c * get_or row i 0) (plus (modulo q) u (multiple (modulo q) c row)) cs (drop n rows)
      (length-plus (modulo q) u (multiple (modulo q) c row) (length-map row ((modulo q).mul c) ∙ wide) ∙ e)
      (omega (arith, length-drop n rows)) l
      (sym (plus-multiple-at (modulo q) c i u row wide (omega arith))
      ∙ ap (λ a. (a + (c * get_or row i 0) % q) % q) h ∙ sym (add-mod x (c * get_or row i 0) q))

  pub plus_rows-size : (u cs rows : List ℕ) → length u ≡ n → length rows ≡ length cs * n
      → length (plus_rows (modulo q) n u cs rows) ≡ n
  plus_rows-size u [] rows e size = e
  plus_rows-size u (c ∷ cs) rows e size =
      plus_rows-size (plus (modulo q) u (multiple (modulo q) c (take n rows))) cs (drop n rows)
      (length-plus (modulo q) u (multiple (modulo q) c (take n rows)) (length-map (take n rows) ((modulo q).mul c)
      ∙ length-take-le n rows (omega arith) ∙ sym e) ∙ e)
      (omega (arith, length-drop n rows))

  -- rows that are taken 0 times
  pub plus-none : (u v : List ℕ) → AllScalars (modulo q) u → length v ≡ length u
      → plus (modulo q) u (multiple (modulo q) 0 v) ≡ u
  plus-none [] v h e = refl
  plus-none (a ∷ u) [] h e = absurd (omega arith)
  plus-none (a ∷ u) (b ∷ v) h e =
      ap₂ ◌∷◌ (ap (λ t. (a + t % q) % q) (zero-mul b) ∙ ap (λ t. (a + t) % q) (zero-mod q)
      ∙ ap (λ t. t % q) (add-zero a) ∙ mod-eq_of_lt (h 0 0 (omega arith)))
      (plus-none u v (All-drop (λ x. x < q) 1 (a ∷ u) h) (omega arith))

  pub plus_rows-none : (m : ℕ) (u rows : List ℕ) → AllScalars (modulo q) u → length u ≡ n → length rows ≡ m * n
      → plus_rows (modulo q) n u (zeros m) rows ≡ u
  plus_rows-none zero u rows h e size = refl
  plus_rows-none (suc m) u rows h e size =
      ap (λ t. plus_rows (modulo q) n t (zeros m) (drop n rows))
      (plus-none u (take n rows) h (length-take-le n rows (omega arith) ∙ sym e))
      ∙ plus_rows-none m u (drop n rows) h e (omega (arith, length-drop n rows))

-- four numbers, one by one
pub four_entries : (cs : List ℕ) → length cs ≡ 4
    → cs ≡ get_or cs 0 0 ∷ get_or cs 1 0 ∷ get_or cs 2 0 ∷ get_or cs 3 0 ∷ []
four_entries [] e = absurd (omega arith)
four_entries (a ∷ []) e = absurd (omega arith)
four_entries (a ∷ b ∷ []) e = absurd (omega arith)
four_entries (a ∷ b ∷ c ∷ []) e = absurd (omega arith)
four_entries (a ∷ b ∷ c ∷ d ∷ []) e = refl
four_entries (a ∷ b ∷ c ∷ d ∷ x ∷ cs) e = absurd (omega arith)
