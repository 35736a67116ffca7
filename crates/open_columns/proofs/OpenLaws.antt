-- The first open block of each column.
use Rattle.std.proofs.Common.{◌≡◌, ◌≢◌, ℕ, zero, suc, ◌<◌, ◌≤◌, ◌+◌, Bool, true, false, cond, refl, sym, ap, ◌∙◌, subst}
use Rattle.std.proofs.Common.{arith, ◌⊎◌, inl, inr, List, [], ◌∷◌, length, get_or, replicate, Option, Some, None}
use Rattle.std.proofs.Common.{MatchOption, eqb}
use Rattle.std.specs.Option.{option_map, is_some}
use Rattle.std.proofs.lemmas.Bool.{eq-eqb, ne_eqb, cases_eq, cases_Bool, cases_lt}
use Rattle.std.proofs.lemmas.List.{length-replicate}
use Rattle.rising_lists.specs.Rising.{ByCell, IsRising, IsLine, has, look, entry, entry_of}
use Rattle.rising_lists.proofs.Keyed.{rising_le, place_of, look-at, look-absent, is_some-look}
use Rattle.rising_lists.proofs.LineLaws.{line-absent}
use Rattle.open_columns.specs.declared.mark.Mark.{Mark}
use Rattle.open_columns.specs.declared.mark.First.{First}
use Rattle.open_columns.specs.Open.{IsFirst, FirstFrom, FirstPair, NoneBelow, AreFirst, AreNoneBelow, is_open, first_of}

abbrev pub nothing : First
nothing = record { cell = None }

abbrev pub no_mark : Mark
no_mark = record { flagged = false; square = false }

fade : (a b : Bool) → (b ≡ true → a ≡ true) → a ≡ false → b ≡ false
fade a true h e = let f : true ≡ false = sym (h refl) ∙ e in cc
fade a false h e = refl

pub first_from-same : (passes passes' : ℕ → Bool) (from : ℕ) (o : Option ℕ) → ((t : ℕ) → passes t ≡ passes' t)
    → FirstFrom passes from o → FirstFrom passes' from o
first_from-same passes passes' from None h f = λ t l. sym (h t) ∙ f t l
first_from-same passes passes' from (Some t) h f =
    record { after = f.after; is = sym (h t) ∙ f.is; none_before = λ q a b. sym (h q) ∙ f.none_before q a b }

pub first_pair-same : (passes passes' : ℕ → ℕ → Bool) (x : ℕ) (o : Option (ℕ × ℕ))
    → ((s t : ℕ) → passes s t ≡ passes' s t) → FirstPair passes x o → FirstPair passes' x o
first_pair-same passes passes' x None h f = λ s t l. sym (h s t) ∙ f s t l
first_pair-same passes passes' x (Some p) h f = record {
  after = f.after;
  is = sym (h p.0 p.1) ∙ f.is;
  none_before = λ q r a b. sym (h q r) ∙ f.none_before q r a b;
  none_beside = λ r b. sym (h p.0 r) ∙ f.none_beside r b;
}

-- where fewer pass, still none below the first
pub fewer : (passes passes' : ℕ → Bool) (o : Option ℕ) → ((t : ℕ) → passes' t ≡ true → passes t ≡ true)
    → FirstFrom passes 0 o → NoneBelow passes' o
fewer passes passes' None h f = λ t. fade (passes t) (passes' t) (h t) (f t (omega arith))
fewer passes passes' (Some t) h f = λ q l. fade (passes q) (passes' q) (h q) (f.none_before q (omega arith) l)

-- a flag set, or a block taken out, opens none
pub flag-closes : (b sq : Bool) (o o' : Option Mark)
    → is_open (cond b (option_map (λ _. record { flagged = true; square = sq }) o) o') ≡ true → is_open o' ≡ true
flag-closes true true None o' e = cc
flag-closes true true (Some m) o' e = cc
flag-closes true false None o' e = cc
flag-closes true false (Some m) o' e = cc
flag-closes false sq o o' e = e

pub removal-closes : (b : Bool) (o' : Option Mark) → is_open (cond b None o') ≡ true → is_open o' ≡ true
removal-closes true o' e = cc
removal-closes false o' e = e

abbrev opens : ByCell (ByCell Mark) → ℕ → ℕ → Bool
opens marks s t = is_open (entry_of marks s t)

-- one column has changed, and its first open block has been found again
pub first-renewed : (marks marks' : ByCell (ByCell Mark)) (firsts firsts' : ByCell First) (x : ℕ)
    → AreFirst marks firsts → marks'.cells ≡ marks.cells
    → ((k : ℕ) → is_some (entry firsts' k) ≡ is_some (entry firsts k))
    → ((k : ℕ) → k ≢ x → (t : ℕ) → entry_of marks' k t ≡ entry_of marks k t)
    → ((k : ℕ) → k ≢ x → first_of (entry firsts' k) ≡ first_of (entry firsts k))
    → FirstFrom (opens marks' x) 0 (first_of (entry firsts' x)) → AreFirst marks' firsts'
first-renewed marks marks' firsts firsts' x are same noted others unchanged here = record {
  noted = λ s. noted s ∙ are.noted s ∙ ap (has s) (sym same);
  first = λ s. elim (cases_eq s x) [
    | inl e ↦ subst (λ k. FirstFrom (opens marks' k) 0 (first_of (entry firsts' k))) (sym e) here
    | inr n ↦
        first_from-same (opens marks s) (opens marks' s) 0 (first_of (entry firsts' s))
        (λ t. ap is_open (sym (others s n t)))
        (subst (FirstFrom (opens marks s) 0) (sym (unchanged s n)) (are.first s))
  ];
}

put-none : (o : Option First) (v : First) → is_some o ≡ false → first_of (option_map (λ _. v) o) ≡ None
put-none None v e = refl
put-none (Some x) v e = cc

put-some : (o : Option First) (v : First) → is_some o ≡ true → first_of (option_map (λ _. v) o) ≡ v.cell
put-some None v e = cc
put-some (Some x) v e = refl

-- one column has been replaced, and its first open block has been put
pub first-replaced : (marks marks' : ByCell (ByCell Mark)) (firsts firsts' : ByCell First) (x : ℕ) (first : Option ℕ)
    → AreFirst marks firsts → marks'.cells ≡ marks.cells
    → ((k : ℕ) → k ≢ x → (t : ℕ) → entry_of marks' k t ≡ entry_of marks k t)
    → ((q : ℕ) → entry firsts' q ≡ cond (eqb q x) (option_map (λ _. record { cell = first }) (entry firsts x))
    (entry firsts q))
    → (has x marks.cells ≡ true → FirstFrom (opens marks' x) 0 first) → AreFirst marks' firsts'
first-replaced marks marks' firsts firsts' x first are same others put here =
    first-renewed marks marks' firsts firsts' x are same (λ k. ap is_some (put k) ∙ still k (cases_eq k x)) others
    (λ k n. ap first_of (put k ∙ ap (λ b. cond b (option_map (λ _. fresh) (entry firsts x)) (entry firsts k))
    (ne_eqb k x n)))
    (elim (cases_Bool (has x marks.cells)) [
      | inl e ↦ subst (FirstFrom (opens marks' x) 0)
          (sym (put_here ∙ put-some (entry firsts x) fresh (are.noted x ∙ e))) (here e)
      | inr e ↦ subst (FirstFrom (opens marks' x) 0)
          (sym (put_here ∙ put-none (entry firsts x) fresh (are.noted x ∙ e)))
          (λ t l. ap (λ c. is_open (entry c t)) (line-absent marks'.cells marks'.values x (ap (has x) same ∙ e)))
    ])
  where
    fresh : First
    fresh = record { cell = first }

    both : (o : Option First) → is_some (option_map (λ _. fresh) o) ≡ is_some o
    both None = refl
    both (Some v) = refl

    still : (k : ℕ) → (k ≡ x) ⊎ (k ≡ x → ⊥)
        → is_some (cond (eqb k x) (option_map (λ _. fresh) (entry firsts x)) (entry firsts k))
        ≡ is_some (entry firsts k)
    still k (inl e) = rw (eq-eqb k x e) (both (entry firsts x) ∙ ap (λ n. is_some (entry firsts n)) (sym e))
    still k (inr n) = rw (ne_eqb k x n) refl

    put_here : first_of (entry firsts' x) ≡ first_of (option_map (λ _. fresh) (entry firsts x))
    put_here = ap first_of (put x ∙ ap (λ b. cond b (option_map (λ _. fresh) (entry firsts x)) (entry firsts x))
        (eq-eqb x x refl))

-- empty columns have no open block
pub first-empty : (marks : ByCell (ByCell Mark)) (firsts : ByCell First) → firsts.cells ≡ marks.cells
    → firsts.values ≡ replicate (length firsts.cells) nothing
    → ((s t : ℕ) → entry_of marks s t ≡ None) → AreFirst marks firsts
first-empty marks firsts same filled empty = record {
  noted = λ s. ap (λ vs. is_some (look s firsts.cells vs)) filled
      ∙ is_some-look s firsts.cells (replicate (length firsts.cells) nothing)
      (length-replicate (length firsts.cells) nothing) ∙ ap (has s) same;
  first = λ s. subst (FirstFrom (opens marks s) 0)
      (sym (ap (λ vs. first_of (look s firsts.cells vs)) filled ∙ none s firsts.cells (length firsts.cells)))
      (λ t l. ap is_open (empty s t));
}
  where
    none : (s : ℕ) (ks : List ℕ) (n : ℕ) → first_of (look s ks (replicate n nothing)) ≡ None
    none s [] n = refl
    none s (k ∷ ks) zero = refl
    none s (k ∷ ks) (suc n) = go (eqb k s) (none s ks n)
      where
        go : (b : Bool) → first_of (look s ks (replicate n nothing)) ≡ None
            → first_of (cond b (Some nothing) (look s ks (replicate n nothing))) ≡ None
        go true h = refl
        go false h = h

-- the cells before a place that are at or after another pass no test
abbrev pub NoneTo : (ℕ → Bool) → List ℕ → ℕ → ℕ → Type 0
NoneTo passes cells from n = (j : ℕ) → j < n → from ≤ get_or cells j 0 → passes (get_or cells j 0) ≡ false

pub none-next : (passes : ℕ → Bool) (cells : List ℕ) (from i : ℕ) → NoneTo passes cells from i
    → (from ≤ get_or cells i 0 → passes (get_or cells i 0) ≡ false)
    → NoneTo passes cells from (i + 1)
none-next passes cells from i none here j l a = elim (cases_lt j i) [
  | inl u ↦ none j u a
  | inr u ↦
      let e : i ≡ j = omega arith in
      subst (λ k. from ≤ get_or cells k 0 → passes (get_or cells k 0) ≡ false) e here a
]

module _ (passes : ℕ → Bool) (cells : List ℕ) (from : ℕ) (unlisted : (q : ℕ) → has q cells ≡ false → passes q ≡ false)
  where
    none-listed : (n : ℕ) → NoneTo passes cells from n → (q : ℕ) → from ≤ q
        → ((j : ℕ) → j < length cells → get_or cells j 0 ≡ q → j < n) → passes q ≡ false
    none-listed n none q a within = elim (cases_Bool (has q cells)) [
      | inl e ↦
          let p = place_of cells q e in
          ap passes (sym p.is) ∙ none p.at (within p.at p.inside p.is) (subst (λ k. from ≤ k) (sym p.is) a)
      | inr e ↦ unlisted q e
    ]

    pub first-listed : (i : ℕ) → IsRising cells → i < length cells → NoneTo passes cells from i
        → from ≤ get_or cells i 0 → passes (get_or cells i 0) ≡ true → IsFirst passes from (get_or cells i 0)
    first-listed i r l none a is = record {
      after = a;
      is = is;
      none_before = λ q b u. none-listed i none q b
          (λ j m e. elim (cases_lt j i)
          [ inl v ↦ v | inr v ↦ absurd (omega (arith, rising_le cells r i j (omega arith) m, e)) ]);
    }

    pub none-at_all : (n : ℕ) → length cells ≤ n → NoneTo passes cells from n → FirstFrom passes from None
    none-at_all n done none q a = none-listed n none q a (λ j l e. omega arith)

-- no open block from a column that is not listed, and no mark at a cell that is not
pub unlisted-mark : (column : ByCell Mark) (q : ℕ) → has q column.cells ≡ false → is_open (entry column q) ≡ false
unlisted-mark column q h = ap is_open (look-absent q column.cells column.values h)

pub unlisted-column : (firsts : ByCell First) (q : ℕ) → has q firsts.cells ≡ false → is_some (first_of (entry firsts q))
    ≡ false
unlisted-column firsts q h = ap (λ o. is_some (first_of o)) (look-absent q firsts.cells firsts.values h)

pub entry-at : {T : Type 0} (line : ByCell T) (i : ℕ) (d : T) → IsLine line → i < length line.cells
    → entry line (get_or line.cells i 0) ≡ Some (get_or line.values i d)
entry-at line i d is l = look-at line.cells line.values is.full is.rising i d l

pub known : (o : Option ℕ) → is_some o ≡ false → o ≡ None
known None e = refl
known (Some t) e = cc

-- no column up to a cell has an open block where none below the cell has, it has none, and no later one has
pub none-after : (firsts : ByCell First) (low : ℕ) → AreNoneBelow firsts low
    → is_some (first_of (entry firsts low)) ≡ false → (k : ℕ)
    → (low + 1 ≤ k → is_some (first_of (entry firsts k)) ≡ false) → first_of (entry firsts k) ≡ None
none-after firsts low below here k after = elim (cases_lt k low) [
  | inl u ↦ below k u
  | inr u ↦ elim (cases_eq low k) [
    | inl e ↦ known (first_of (entry firsts k)) (ap (λ n. is_some (first_of (entry firsts n))) (sym e) ∙ here)
    | inr n ↦ known (first_of (entry firsts k)) (after (omega arith))
  ]
]

-- what is put at a cell keeps that none below another is open
pub none-put : (firsts firsts' : ByCell First) (low low' x : ℕ) (first : First) → AreNoneBelow firsts low
    → low' ≤ low → (is_some first.cell ≡ true → low' ≤ x)
    → ((q : ℕ) → entry firsts' q ≡ cond (eqb q x) (option_map (λ _. first) (entry firsts x)) (entry firsts q))
    → AreNoneBelow firsts' low'
none-put firsts firsts' low low' x first none within above put k l = ap first_of (put k) ∙ elim (cases_eq k x) [
  | inl e ↦
      ap (λ b. first_of (cond b (option_map (λ _. first) (entry firsts x)) (entry firsts k))) (eq-eqb k x e)
      ∙ go (entry firsts x) (elim (cases_Bool (is_some first.cell)) [
        | inl some ↦ absurd (omega (arith, above some, e, l))
        | inr other ↦ known first.cell other
      ])
  | inr n ↦
      ap (λ b. first_of (cond b (option_map (λ _. first) (entry firsts x)) (entry firsts k))) (ne_eqb k x n)
      ∙ none k (omega arith)
]
  where
    go : (o : Option First) → first.cell ≡ None → first_of (option_map (λ _. first) o) ≡ None
    go None e = refl
    go (Some v) e = e

-- the first open block of the first column after x that has one
module _ (marks : ByCell (ByCell Mark)) (firsts : ByCell First) (x : ℕ) (are : AreFirst marks firsts) where
  closed : (s t : ℕ) → first_of (entry firsts s) ≡ None → opens marks s t ≡ false
  closed s t e = let f : FirstFrom (opens marks s) 0 None = subst (FirstFrom (opens marks s) 0) e (are.first s) in
      f t (omega arith)

  pub first_pair-none : FirstFrom (λ s. is_some (first_of (entry firsts s))) (x + 1) None
      → FirstPair (opens marks) x None
  first_pair-none none s t l = closed s t (known (first_of (entry firsts s)) (none s (omega arith)))

  pub first_pair-some : (s : ℕ) (o : Option (ℕ × ℕ)) → IsFirst (λ s. is_some (first_of (entry firsts s))) (x + 1) s
      → MatchOption o (first_of (entry firsts s) ≡ None) (λ p. (p.0 ≡ s) × (first_of (entry firsts s) ≡ Some p.1))
      → FirstPair (opens marks) x o
  first_pair-some s None is none = let f : false ≡ true = sym (ap is_some none) ∙ is.is in cc
  first_pair-some s (Some p) is at =
      let here : IsFirst (opens marks s) 0 p.1 = subst (FirstFrom (opens marks s) 0) at.1 (are.first s) in
      record {
        after = omega (arith, is.after, at.0);
        is = ap (λ k. opens marks k p.1) at.0 ∙ here.is;
        none_before = λ q r a b. closed q r
            (known (first_of (entry firsts q)) (is.none_before q (omega arith) (omega (arith, b, at.0))));
        none_beside = λ r b. ap (λ k. opens marks k r) at.0 ∙ here.none_before r (omega arith) b;
      }
