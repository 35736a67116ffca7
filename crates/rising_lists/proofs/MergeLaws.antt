-- Two rising lists are merged into one, cell by cell.
use Rattle.std.proofs.Common.{◌≡◌, ◌≢◌, ℕ, zero, suc, ◌<◌, ◌≤◌, ◌+◌, ◌-◌, Bool, true, false, cond, refl, sym, ap, ap₂}
use Rattle.std.proofs.Common.{◌∙◌, arith, ◌⊎◌, inl, inr, List, [], ◌∷◌, ◌++◌, length, get_or, drop, Option, Some, None}
use Rattle.std.proofs.Common.{eqb, subst, length-append, drop-cons, MatchBool}
use Rattle.std.specs.Option.{unwrap_or, option_map, option_to_list}
use Rattle.std.proofs.Common.{append-nil, append_assoc, get_or-drop, add-one, take, set, map, ◌*◌}
use Rattle.std.proofs.lemmas.List.{get_or_push, get_or_append_left, get_or_default, take_more, length-drop}
use Rattle.std.proofs.lemmas.List.{take_more_set, length-set, get_or-map}
use Rattle.std.proofs.lemmas.Bool.{eq-eqb, ne_eqb, cases_eq, cases_lt, lt-ltb, le-ltb}
use Rattle.rising_lists.specs.Rising.{has, look, entry_after, IsRising, IsLine, stands, past, IsNext, IsMerge}
use Rattle.rising_lists.specs.Rising.{value_if, strided}
use Rattle.rising_lists.proofs.Keyed.{has-absent, look-absent, look-at, rising_le}

-- the first i cells are below low, and the others are not
pub record IsPlace (ks : List ℕ) (low i : ℕ) : Type 0 where
  pub within : i ≤ length ks
  pub below : (a : ℕ) → a < i → get_or ks a 0 < low
  pub from : (a : ℕ) → i ≤ a → a < length ks → low ≤ get_or ks a 0

stands-here : (ks : List ℕ) (i c : ℕ) → i < length ks → get_or ks i 0 ≡ c → stands ks i c ≡ true
stands-here ks i c l e = rw (lt-ltb i (length ks) l, eq-eqb (get_or ks i 0) c e) refl

stands-other : (ks : List ℕ) (i c : ℕ) → i < length ks → get_or ks i 0 ≢ c → stands ks i c ≡ false
stands-other ks i c l n = rw (lt-ltb i (length ks) l, ne_eqb (get_or ks i 0) c n) refl

stands-past : (ks : List ℕ) (i c : ℕ) → length ks ≤ i → stands ks i c ≡ false
stands-past ks i c l = rw le-ltb refl

-- what a test that a cell stands at a place tells
pub stands-true : (ks : List ℕ) (i c : ℕ) → stands ks i c ≡ true → (i < length ks) × (get_or ks i 0 ≡ c)
stands-true ks i c h = elim (cases_lt i (length ks)) [
  | inl l ↦ elim (cases_eq (get_or ks i 0) c) [
    | inl e ↦ (l, e)
    | inr n ↦
        absurd (let f = stands-other ks i c l n in let g : true ≡ false = sym h ∙ f in cc)
  ]
  | inr l ↦ absurd (let f = stands-past ks i c l in let g : true ≡ false = sym h ∙ f in cc)
]

pub stands-false : (ks : List ℕ) (i c : ℕ) → stands ks i c ≡ false → i < length ks → get_or ks i 0 ≢ c
stands-false ks i c h l e = let f = stands-here ks i c l e in let g : true ≡ false = sym f ∙ h in cc

-- the place of the next cell
pub place-next : (ks : List ℕ) (low i c : ℕ) → IsRising ks → IsPlace ks low i → low ≤ c
    → (i < length ks → c ≤ get_or ks i 0) → IsPlace ks (c + 1) (past ks i c)
place-next ks low i c r p l n = elim (cases_lt i (length ks)) [
  | inl u ↦ elim (cases_eq (get_or ks i 0) c) [
    | inl e ↦ subst (IsPlace ks (c + 1)) (sym (ap (λ b. cond b (i + 1) i) (stands-here ks i c u e))) (record {
      within = omega arith;
      below = λ a o. elim (cases_lt a i) [
        | inl v ↦ omega (arith, p.below a v)
        | inr v ↦ let f : i ≡ a = omega arith in
            subst (λ x. get_or ks x 0 < c + 1) f (omega arith)
      ];
      from = λ a o s. omega (arith, r i a (omega arith) s, e);
    })
    | inr e ↦ subst (IsPlace ks (c + 1)) (sym (ap (λ b. cond b (i + 1) i) (stands-other ks i c u e))) (record {
      within = omega arith;
      below = λ a o. omega (arith, p.below a o);
      from = λ a o s. let m = n u in omega (arith, m, e, rising_le ks r i a o s);
    })
  ]
  | inr u ↦ subst (IsPlace ks (c + 1)) (sym (ap (λ b. cond b (i + 1) i) (stands-past ks i c u))) (record {
    within = p.within;
    below = λ a o. omega (arith, p.below a o);
    from = λ a o s. absurd (omega arith);
  })
]

past-on : (ks : List ℕ) (i c : ℕ) → i ≤ past ks i c
past-on ks i c = go (stands ks i c)
  where
    go : (b : Bool) → i ≤ cond b (i + 1) i
    go true = omega arith
    go false = omega arith

-- the next cell is one of those left
pub next-smaller : (first second : List ℕ) (i j c : ℕ) → IsNext first second i j c
    → (length first - past first i c) + (length second - past second j c) < (length first - i) + (length second - j)
next-smaller first second i j c n = elim n.is [
  | inl h ↦ let e : past second j c ≡ j + 1 = ap (λ b. cond b (j + 1) j) (stands-here second j c h.0 h.1) in
      omega (arith, past-on first i c, e, h.0)
  | inr h ↦ let e : past first i c ≡ i + 1 = ap (λ b. cond b (i + 1) i) (stands-here first i c h.0 h.1) in
      omega (arith, past-on second j c, e, h.0)
]

-- no cell stands between
absent-between : (ks : List ℕ) (low i c q : ℕ) → IsRising ks → IsPlace ks low i → (i < length ks → c ≤ get_or ks i 0)
    → low ≤ q → q < c → has q ks ≡ false
absent-between ks low i c q r p n l m = has-absent q ks (λ a s e. elim (cases_lt a i) [
  | inl u ↦ absurd (omega (arith, p.below a u, e))
  | inr u ↦ absurd (let o = n (omega arith) in omega (arith, o, rising_le ks r i a u s, e))
])

-- a line with one more cell at its end
pub rising-push : (ks : List ℕ) (k : ℕ) → IsRising ks → ((p : ℕ) → p < length ks → get_or ks p 0 < k)
    → IsRising (ks ++ k ∷ [])
rising-push ks k r above i j l m =
    let n : length (ks ++ k ∷ []) ≡ length ks + 1 = length-append ks (k ∷ []) in
    subst (λ x. x < get_or (ks ++ k ∷ []) j 0) (sym (get_or_append_left ks (k ∷ []) 0 i (omega arith)))
    (elim (cases_lt j (length ks)) [
      | inl u ↦ subst (λ x. get_or ks i 0 < x) (sym (get_or_append_left ks (k ∷ []) 0 j u)) (r i j l u)
      | inr u ↦ subst (λ x. get_or ks i 0 < x) (sym (get_or_push ks k 0 j (omega arith))) (above i (omega arith))
    ])

pub look-push : {A : Type 0} (q : ℕ) (ks : List ℕ) (vs : List A) (k : ℕ) (v : A) → length vs ≡ length ks
    → look k ks vs ≡ None
    → look q (ks ++ k ∷ []) (vs ++ v ∷ []) ≡ cond (eqb q k) (Some v) (look q ks vs)
look-push q [] [] k v s n = elim (cases_eq k q) [
  | inl e ↦ rw (eq-eqb k q e, eq-eqb q k (sym e)) refl
  | inr m ↦ rw (ne_eqb k q m, ne_eqb q k (λ e. m (sym e))) refl
]
look-push q [] (u ∷ vs) k v s n = absurd (omega arith)
look-push q (x ∷ ks) [] k v s n = absurd (omega arith)
look-push {A} q (x ∷ ks) (u ∷ vs) k v s n = go (cases_eq x k) (cases_eq x q) n
    (λ m. look-push q ks vs k v (omega arith) m)
  where
    go : (x ≡ k) ⊎ (x ≡ k → ⊥) → (x ≡ q) ⊎ (x ≡ q → ⊥) → cond (eqb x k) (Some u) (look k ks vs) ≡ None
        → (look k ks vs ≡ None → look q (ks ++ k ∷ []) (vs ++ v ∷ []) ≡ cond (eqb q k) (Some v) (look q ks vs))
        → cond (eqb x q) (Some u) (look q (ks ++ k ∷ []) (vs ++ v ∷ [])) ≡ cond (eqb q k) (Some v)
        (cond (eqb x q) (Some u) (look q ks vs))
    go (inl e) f m h = absurd (let m' = rw (eq-eqb x k e) at m in cc)
    go (inr e) (inl f) m h = rw (eq-eqb x q f, ne_eqb q k (λ d. e (f ∙ d))) refl
    go (inr e) (inr f) m h = let m' = rw (ne_eqb x k e) at m in rw (ne_eqb x q f) (h m')

-- cells of a line are below a cell from which on it has nothing
pub below-later : {A : Type 0} (ks : List ℕ) (vs : List A) (c : ℕ) → length vs ≡ length ks → IsRising ks
    → ((q : ℕ) → c ≤ q → look q ks vs ≡ None)
    → (p : ℕ) → p < length ks → get_or ks p 0 < c
below-later {A} ks [] c s r h p l = absurd (omega arith)
below-later {A} ks (v ∷ vs) c s r h p l = elim (cases_lt (get_or ks p 0) c) [
  | inl u ↦ u
  | inr u ↦ absurd (let f = look-at ks (v ∷ vs) s r p v l in let g = h (get_or ks p 0) u in let e :
      Some (get_or (v ∷ vs) p v) ≡ None = sym f ∙ g in cc)
]

pub line-push : {A : Type 0} (ks : List ℕ) (vs : List A) (c : ℕ) (v : A)
    → IsLine {A = A} (record { cells = ks; values = vs })
    → ((q : ℕ) → c ≤ q → look q ks vs ≡ None) → IsLine {A = A} (record { cells = ks ++ c ∷ []; values = vs ++ v ∷ [] })
line-push ks vs c v line later = record {
  rising = rising-push ks c line.rising (below-later ks vs c line.full line.rising later);
  full = length-append vs (v ∷ []) ∙ ap (λ n. n + 1) line.full ∙ sym (length-append ks (c ∷ []));
}

-- nothing stands from a cell on that is behind all others
pub none-behind : {A : Type 0} (ks : List ℕ) (vs : List A) (c : ℕ) → ((p : ℕ) → p < length ks → get_or ks p 0 < c)
    → (q : ℕ) → c ≤ q → look q ks vs ≡ None
none-behind ks vs c behind q l = look-absent q ks vs (has-absent q ks (λ i m e. absurd (omega (arith, behind i m))))

-- what was merged so far: all below some cell, of the old list the first i cells, of the listed ones the first j
pub record Merged {A : Type 0} (old : List ℕ) (vs : List A) (listed : List ℕ) (fresh rest : List (Option A)) (i j : ℕ)
    (done : List ℕ) (values : List A) : Type 0 where
  pub low : ℕ
  pub old_place : IsPlace old low i
  pub listed_place : IsPlace listed low j
  pub left : rest ≡ drop j fresh
  pub line : IsLine {A = A} (record { cells = done; values = values })
  pub before : (q : ℕ) → q < low → look q done values ≡ entry_after listed fresh (look q old vs) q
  pub after : (q : ℕ) → low ≤ q → look q done values ≡ None

module _ {A : Type 0} (old : List ℕ) (vs : List A) (listed : List ℕ) (fresh rest : List (Option A)) (i j : ℕ)
    (done : List ℕ) (values : List A)
    (old_rises : IsRising old) (listed_rises : IsRising listed) (old_full : length vs ≡ length old)
    (fresh_full : length fresh ≡ length listed)
    (m : Merged old vs listed fresh rest i j done values) (c : ℕ) (next : IsNext old listed i j c) where
  pub next-low : m.low ≤ c
  next-low = elim next.is [
    | inl h ↦ omega (arith, m.listed_place.from j (omega arith) h.0, h.1)
    | inr h ↦ omega (arith, m.old_place.from i (omega arith) h.0, h.1)
  ]

  -- the value that is due at the next cell, and the fresh values left
  pub record Due (v : Option A) (others : List (Option A)) : Type 0 where
    pub value : v ≡ entry_after listed fresh (look c old vs) c
    pub left : others ≡ drop (past listed j c) fresh

  pub next-listed : (v : Option A) (others : List (Option A)) → stands listed j c ≡ true → rest ≡ v ∷ others
      → Due v others
  next-listed v others h e =
      let s = stands-true listed j c h in
      let d : v ∷ others ≡ get_or fresh j v ∷ drop (suc j) fresh = sym e ∙ m.left
      ∙ drop-cons fresh j v (omega (arith, s.0, fresh_full)) in
      let found : look c listed fresh ≡ Some (get_or fresh j v) = ap (λ x. look x listed fresh) (sym s.1)
      ∙ look-at listed fresh fresh_full listed_rises j v s.0 in
      let here : v ≡ get_or fresh j v = cc in
      let there : others ≡ drop (suc j) fresh = cc in
      record {
        value = here ∙ sym (ap (λ x. unwrap_or x (look c old vs)) found);
        left = there ∙ ap (λ k. drop k fresh) (sym (add-one j) ∙ sym (ap (λ b. cond b (j + 1) j) h));
      }

  pub next-kept : (v : Option A) (others : List (Option A)) → stands listed j c ≡ false → others ≡ rest
      → ((d : A) → v ≡ Some (get_or vs i d)) → Due v others
  next-kept v others h e w = elim next.is [
    | inl s ↦ absurd (stands-false listed j c h s.0 s.1)
    | inr s ↦
        let none : has c listed ≡ false = has-absent c listed (λ a l f. elim (cases_lt a j) [
          | inl u ↦ absurd (omega (arith, m.listed_place.below a u, next-low, f))
          | inr u ↦ absurd (let o = s.2 (omega arith) in omega (arith, o, rising_le listed listed_rises j a u l, f))
        ]) in
        record {
          value = kept vs old_full w (λ d. ap (λ x. look x old vs) (sym s.1)
              ∙ look-at old vs old_full old_rises i d s.0) s.0
              ∙ sym (ap (λ x. unwrap_or x (look c old vs)) (look-absent c listed fresh none));
          left = e ∙ m.left ∙ ap (λ k. drop k fresh) (sym (ap (λ b. cond b (j + 1) j) h));
        }
  ]
    where
      kept : (ws : List A) → length ws ≡ length old → ((d : A) → v ≡ Some (get_or vs i d))
          → ((d : A) → look c old vs ≡ Some (get_or vs i d)) → i < length old → v ≡ look c old vs
      kept [] s w f l = absurd (omega arith)
      kept (x ∷ xs) s w f l = w x ∙ sym (f x)

  pub next-due : (v : Option A) (others : List (Option A)) (b : Bool) → b ≡ stands listed j c
      → MatchBool b (rest ≡ v ∷ others) ((others ≡ rest) × ((d : A) → v ≡ Some (get_or vs i d))) → Due v others
  next-due v others true e h = next-listed v others (sym e) h
  next-due v others false e h = next-kept v others (sym e) h.0 h.1

  -- one more cell
  pub merged-next : (v : Option A) (others : List (Option A)) (done' : List ℕ) (values' : List A) → Due v others
      → IsLine {A = A} (record { cells = done'; values = values' })
      → ((q : ℕ) → look q done' values' ≡ cond (eqb q c) v (look q done values))
      → Merged old vs listed fresh others (past old i c) (past listed j c) done' values'
  merged-next v others done' values' due line' entries = record {
    low = c + 1;
    old_place = place-next old m.low i c old_rises m.old_place next-low next.in_first;
    listed_place = place-next listed m.low j c listed_rises m.listed_place next-low next.in_second;
    left = due.left;
    line = line';
    before = λ q l. elim (cases_lt q c) [
      | inl u ↦ other q (omega arith) ∙ elim (cases_lt q m.low) [
        | inl w ↦ m.before q w
        | inr w ↦ m.after q w ∙ sym (none q w u)
      ]
      | inr u ↦ let e : c ≡ q = omega arith in here q e
    ];
    after = λ q l. other q (omega arith) ∙ m.after q (omega (arith, next-low));
  }
    where
      other : (q : ℕ) → q ≢ c → look q done' values' ≡ look q done values
      other q n = entries q ∙ ap (λ b. cond b v (look q done values)) (ne_eqb q c n)

      here : (q : ℕ) → c ≡ q → look q done' values' ≡ entry_after listed fresh (look q old vs) q
      here q e = subst (λ x. look x done' values' ≡ entry_after listed fresh (look x old vs) x) e
          (entries c ∙ ap (λ b. cond b v (look c done values)) (eq-eqb c c refl) ∙ due.value)

      none : (q : ℕ) → m.low ≤ q → q < c → entry_after listed fresh (look q old vs) q ≡ None
      none q l u =
          ap₂ (λ x y. unwrap_or x y)
          (look-absent q listed fresh (absent-between listed m.low j c q listed_rises m.listed_place next.in_second
          l u))
          (look-absent q old vs (absent-between old m.low i c q old_rises m.old_place next.in_first l u))

-- several cells more of the old list, all below the next listed one
pub merged-run : {A : Type 0} (old : List ℕ) (vs : List A) (listed : List ℕ) (fresh rest : List (Option A)) (i j : ℕ)
    (done : List ℕ) (values : List A) → IsRising old → IsRising listed → length vs ≡ length old
    → length fresh ≡ length listed → Merged old vs listed fresh rest i j done values → (n : ℕ) → i + n ≤ length old
    → ((a : ℕ) → i ≤ a → a < i + n → j < length listed → get_or old a 0 < get_or listed j 0)
    → Merged old vs listed fresh rest (i + n) j (done ++ take n (drop i old)) (values ++ take n (drop i vs))
merged-run {A} old vs listed fresh rest i j done values rises listed_rises full fresh_full m zero l below =
    subst (λ k. Merged old vs listed fresh rest k j (done ++ []) (values ++ [])) (omega arith)
    (subst (λ d. Merged old vs listed fresh rest i j d (values ++ [])) (sym (append-nil done))
    (subst (Merged old vs listed fresh rest i j done) (sym (append-nil values)) m))
merged-run {A} old vs listed fresh rest i j done values rises listed_rises full fresh_full m (suc n) l below =
    more vs full (merged-run old vs listed fresh rest i j done values rises listed_rises full fresh_full m n (omega
    arith)
    (λ a b d e. below a b (omega arith) e)) refl
  where
    cells' : List ℕ
    cells' = done ++ take n (drop i old)

    next : IsNext old listed (i + n) j (get_or old (i + n) 0)
    next = record {
      in_first = λ o. omega arith;
      in_second = λ o. omega (arith, below (i + n) (omega arith) (omega arith) o);
      is = inr (omega (arith, l), refl, λ o. below (i + n) (omega arith) (omega arith) o);
    }

    apart : stands listed j (get_or old (i + n) 0) ≡ false
    apart = elim (cases_lt j (length listed)) [
      | inl o ↦ stands-other listed j (get_or old (i + n) 0) o (λ e. absurd (omega (
        arith,
        below (i + n) (omega arith)
            (omega arith) o,
        e,
      )))
      | inr o ↦ stands-past listed j (get_or old (i + n) 0) o
    ]

    more : (ws : List A) → length ws ≡ length old
        → Merged old vs listed fresh rest (i + n) j cells' (values ++ take n (drop i vs)) → vs ≡ ws
        → Merged old vs listed fresh rest (i + suc n) j (done ++ take (suc n) (drop i old))
        (values ++ take (suc n) (drop i vs))
    more [] size before same = absurd (omega (arith, size, l))
    more (d ∷ ds) size before same =
        let inside : i + n < length vs = omega (arith, full, l) in
        let v : A = get_or vs (i + n) d in
        let low : before.low ≤ (get_or old (i + n) 0) = before.old_place.from (i + n) (omega arith) (omega (arith, l))
        in
        let due = next-kept old vs listed fresh rest (i + n) j cells' (values ++ take n (drop i vs)) rises
        listed_rises full
        fresh_full before (get_or old (i + n) 0) next (Some v) rest apart refl (λ e. ap Some (get_or_default vs (i +
        n) d e inside)) in
        let line' = line-push cells' (values ++ take n (drop i vs)) (get_or old (i + n) 0) v before.line
        (λ q o. before.after q (omega (arith, low, o))) in
        let entries : (q : ℕ) → look q (cells' ++ (get_or old (i + n) 0) ∷ []) ((values ++ take n (drop i vs)) ++ v ∷
        [])
        ≡ cond (eqb q (get_or old (i + n) 0)) (Some v) (look q cells' (values ++ take n (drop i vs))) =
        λ q. look-push q cells' (values ++ take n (drop i vs)) (get_or old (i + n) 0) v before.line.full (before.after
        (get_or old (i + n) 0) low) in
        let after = merged-next old vs listed fresh rest (i + n) j cells' (values ++ take n (drop i vs)) rises
        listed_rises
        full fresh_full before (get_or old (i + n) 0) next (Some v) rest (cells' ++ (get_or old (i + n) 0) ∷ [])
        ((values ++ take n (drop i vs)) ++ v ∷ []) due
        line' entries in
        let old_past : past old (i + n) (get_or old (i + n) 0) ≡ i + suc n = ap (λ b. cond b ((i + n) + 1) (i + n))
        (stands-here old (i + n) (get_or old (i + n) 0) (omega (arith, l)) refl)
        ∙ omega arith in
        let listed_past : past listed j (get_or old (i + n) 0) ≡ j = ap (λ b. cond b (j + 1) j) apart in
        let cells_are : cells' ++ (get_or old (i + n) 0) ∷ [] ≡ done ++ take (suc n) (drop i old) =
        append_assoc done (take n (drop i old)) ((get_or old (i + n) 0) ∷ [])
        ∙ ap (λ e. done ++ e) (ap (λ e. take n (drop i old) ++ e ∷ []) (sym (get_or-drop i old n 0))
        ∙ sym (take_more (drop i old) n 0 (omega (arith, length-drop i old, l))) ∙ ap (λ e. take e (drop i old))
        (add-one n))
        in
        let values_are : (values ++ take n (drop i vs)) ++ v ∷ [] ≡ values ++ take (suc n) (drop i vs) =
        append_assoc values (take n (drop i vs)) (v ∷ [])
        ∙ ap (λ e. values ++ e) (ap (λ e. take n (drop i vs) ++ e ∷ []) (sym (get_or-drop i vs n d))
        ∙ sym (take_more (drop i vs) n d (omega (arith, length-drop i vs, full, l))) ∙ ap (λ e. take e (drop i vs))
        (add-one n))
        in
        subst (Merged old vs listed fresh rest (i + suc n) j (done ++ take (suc n) (drop i old))) values_are
        (subst (λ e. Merged old vs listed fresh rest (i + suc n) j e ((values ++ take n (drop i vs)) ++ v ∷ []))
        cells_are
        (subst (λ e. Merged old vs listed fresh rest (i + suc n) e (cells' ++ (get_or old (i + n) 0) ∷ [])
        ((values ++ take n (drop i vs)) ++ v ∷ [])) listed_past
        (subst (λ e. Merged old vs listed fresh rest e (past listed j (get_or old (i + n) 0)) (cells' ++ (get_or old
        (i + n) 0) ∷ [])
        ((values ++ take n (drop i vs)) ++ v ∷ [])) old_past after)))

-- the next listed cell, with its fresh value where it has one
pub merged-listed : {A : Type 0} (old : List ℕ) (vs : List A) (listed : List ℕ) (fresh : List (Option A)) (i j : ℕ)
    (done : List ℕ) (values : List A) → IsRising old → IsRising listed → length vs ≡ length old
    → length fresh ≡ length listed → Merged old vs listed fresh (drop j fresh) i j done values → j < length listed
    → (i < length old → get_or listed j 0 ≤ get_or old i 0)
    → Merged old vs listed fresh (drop (j + 1) fresh) (past old i (get_or listed j 0)) (j + 1)
    (done ++ option_to_list (option_map (λ _. get_or listed j 0) (get_or fresh j None)))
    (values ++ option_to_list (get_or fresh j None))
merged-listed {A} old vs listed fresh i j done values rises listed_rises full fresh_full m inside here =
    subst (λ k. Merged old vs listed fresh (drop (j + 1) fresh) (past old i (get_or listed j 0)) k
    (done ++ option_to_list (option_map (λ _. (get_or listed j 0)) (get_or fresh j None))) (values ++ option_to_list
    (get_or fresh j None))) listed_past
    (merged-next old vs listed fresh (drop j fresh) i j done values rises listed_rises full fresh_full m (get_or
    listed j 0) next (get_or fresh j None)
    (drop (j + 1) fresh) (done ++ option_to_list (option_map (λ _. (get_or listed j 0)) (get_or fresh j None)))
    (values ++ option_to_list (get_or fresh j None))
    (next-listed old vs listed fresh (drop j fresh) i j done values rises listed_rises full fresh_full m (get_or
    listed j 0) next (get_or fresh j None)
    (drop (j + 1) fresh) (stands-here listed j (get_or listed j 0) inside refl)
    (drop-cons fresh j None (omega (arith, inside, fresh_full)) ∙ ap (λ k. (get_or fresh j None) ∷ drop k fresh) (sym
    (add-one j))))
    (line (get_or fresh j None)) (entries (get_or fresh j None)))
  where
    next : IsNext old listed i j (get_or listed j 0)
    next = record { in_first = here; in_second = λ o. omega arith; is = inl (inside, refl) }

    listed_past : past listed j (get_or listed j 0) ≡ j + 1
    listed_past = ap (λ b. cond b (j + 1) j) (stands-here listed j (get_or listed j 0) inside refl)

    low : m.low ≤ (get_or listed j 0)
    low = m.listed_place.from j (omega arith) inside

    line : (o : Option A) → IsLine {A = A} (record {
      cells = done ++ option_to_list (option_map (λ _. (get_or listed j 0)) o);
      values = values ++ option_to_list o;
    })
    line None = subst (λ d. IsLine {A = A} (record { cells = d; values = values ++ [] })) (sym (append-nil done))
        (subst (λ d. IsLine {A = A} (record { cells = done; values = d })) (sym (append-nil values)) m.line)
    line (Some x) = line-push done values (get_or listed j 0) x m.line (λ q o. m.after q (omega (arith, low, o)))

    entries : (o : Option A) (q : ℕ)
        → look q (done ++ option_to_list (option_map (λ _. (get_or listed j 0)) o)) (values ++ option_to_list o)
        ≡ cond (eqb q (get_or listed j 0)) o (look q done values)
    entries None q =
        ap₂ (λ d e. look q d e) (append-nil done) (append-nil values) ∙ elim (cases_eq q (get_or listed j 0)) [
          | inl e ↦ m.after q (omega (arith, low, e)) ∙ sym (ap (λ b. cond b None (look q done values)) (eq-eqb q
              (get_or listed j 0) e))
          | inr n ↦ sym (ap (λ b. cond b None (look q done values)) (ne_eqb q (get_or listed j 0) n))
        ]
    entries (Some x) q = look-push q done values (get_or listed j 0) x m.line.full (m.after (get_or listed j 0) low)

-- all was merged
pub merged-all : {A : Type 0} (old : List ℕ) (vs : List A) (listed : List ℕ) (fresh rest : List (Option A)) (i j : ℕ)
    (done : List ℕ) (values : List A)
    → Merged old vs listed fresh rest i j done values → length old ≤ i → length listed ≤ j → (q : ℕ)
    → look q done values ≡ entry_after listed fresh (look q old vs) q
merged-all old vs listed fresh rest i j done values m l n q = elim (cases_lt q m.low) [
  | inl u ↦ m.before q u
  | inr u ↦
      m.after q u
      ∙ sym (ap₂ (λ x y. unwrap_or x y)
      (look-absent q listed fresh
      (has-absent q listed (λ a s e. absurd (omega (arith, m.listed_place.below a (omega arith), e)))))
      (look-absent q old vs (has-absent q old (λ a s e. absurd (omega (arith, m.old_place.below a (omega arith), e))))))
]

-- a merge under way: the first k cells and values are those merged so far
pub record Merging {A : Type 0} (old : List ℕ) (vs : List A) (ks : List ℕ) (fresh : List (Option A)) (i j k : ℕ)
    (cells : List ℕ) (values : List A) : Type 0 where
  pub merged : Merged old vs ks fresh (drop j fresh) i j (take k cells) (take k values)
  pub count : k ≤ i + j
  pub cell_room : length old + length ks ≤ length cells
  pub value_room : length old + length ks ≤ length values

pub merging-start : {A : Type 0} (old : List ℕ) (vs : List A) (ks : List ℕ) (fresh : List (Option A)) (cells : List ℕ)
    (values : List A) → length old + length ks ≤ length cells → length old + length ks ≤ length values
    → Merging old vs ks fresh 0 0 0 cells values
merging-start old vs ks fresh cells values c v = record {
  merged = record {
    low = 0;
    old_place = record { within = omega arith; below = λ a l. absurd (omega arith); from = λ a l m. omega arith };
    listed_place = record { within = omega arith; below = λ a l. absurd (omega arith); from = λ a l m. omega arith };
    left = refl;
    line = record { rising = λ a b l m. absurd (omega arith); full = refl };
    before = λ q l. absurd (omega arith);
    after = λ q l. refl;
  };
  count = omega arith;
  cell_room = c;
  value_room = v;
}

module _ {A : Type 0} (old : List ℕ) (vs : List A) (ks : List ℕ) (fresh : List (Option A)) (i j k : ℕ)
    (cells : List ℕ) (values : List A) (rises : IsRising old) (ks_rise : IsRising ks) (full : length vs ≡ length old)
    (fresh_full : length fresh ≡ length ks) (m : Merging old vs ks fresh i j k cells values) where
  -- a cell that the line keeps
  pub merging-kept : i < length old → (j < length ks → get_or old i 0 < get_or ks j 0) → (v : A) → v ≡ get_or vs i v
      → Merging old vs ks fresh (i + 1) j (k + 1) (set cells k (get_or old i 0)) (set values k v)
  merging-kept l before v is =
      let here : k < length cells =
      omega (arith, l, m.count, m.cell_room, m.merged.listed_place.within) in
      let there : k < length values =
      omega (arith, l, m.count, m.value_room, m.merged.listed_place.within) in
      let run = merged-run old vs ks fresh (drop j fresh) i j (take k cells) (take k values) rises ks_rise full
      fresh_full m.merged 1 (omega (arith, l)) (λ a o p q. let e : i ≡ a = omega (arith, o, p) in
      subst (λ x. get_or old x 0 < get_or ks j 0) e (before q)) in
      let one : take 1 (drop i old) ≡ get_or old i 0 ∷ [] = ap (take 1) (drop-cons old i 0 l) in
      let one_value : take 1 (drop i vs) ≡ v ∷ [] =
      ap (take 1) (drop-cons vs i v (omega (arith, l, full))) ∙ ap (λ x. x ∷ []) (sym is) in
      record {
        merged = subst (Merged old vs ks fresh (drop j fresh) (i + 1) j (take (k + 1) (set cells k (get_or old i 0))))
            (ap (λ x. take k values ++ x) one_value ∙ sym (take_more_set values k v there))
            (subst (λ d. Merged old vs ks fresh (drop j fresh) (i + 1) j d (take k values ++ take 1 (drop i vs)))
            (ap (λ x. take k cells ++ x) one ∙ sym (take_more_set cells k (get_or old i 0) here)) run);
        count = omega (arith, m.count);
        cell_room = omega (arith, m.cell_room, length-set cells k (get_or old i 0));
        value_room = omega (arith, m.value_room, length-set values k v);
      }

  -- a listed cell with a fresh value
  pub merging-put : j < length ks → (i < length old → get_or ks j 0 ≤ get_or old i 0) → (v : A)
      → get_or fresh j None ≡ Some v
      → Merging old vs ks fresh (past old i (get_or ks j 0)) (j + 1) (k + 1) (set cells k (get_or ks j 0))
      (set values k v)
  merging-put l before v is =
      let here : k < length cells =
      omega (arith, l, m.count, m.cell_room, m.merged.old_place.within) in
      let there : k < length values =
      omega (arith, l, m.count, m.value_room, m.merged.old_place.within) in
      let next = merged-listed old vs ks fresh i j (take k cells) (take k values) rises ks_rise full fresh_full
      m.merged l before in
      record {
        merged = subst (Merged old vs ks fresh (drop (j + 1) fresh) (past old i (get_or ks j 0)) (j + 1)
            (take (k + 1) (set cells k (get_or ks j 0))))
            (ap (λ o. take k values ++ option_to_list o) is ∙ sym (take_more_set values k v there))
            (subst (λ d. Merged old vs ks fresh (drop (j + 1) fresh) (past old i (get_or ks j 0)) (j + 1) d
            (take k values ++ option_to_list (get_or fresh j None)))
            (ap (λ o. take k cells ++ option_to_list (option_map (λ _. get_or ks j 0) o)) is
            ∙ sym (take_more_set cells k (get_or ks j 0) here)) next);
        count = omega (arith, m.count, past-on old i (get_or ks j 0));
        cell_room = omega (arith, m.cell_room, length-set cells k (get_or ks j 0));
        value_room = omega (arith, m.value_room, length-set values k v);
      }

  -- a listed cell with none
  pub merging-none : j < length ks → (i < length old → get_or ks j 0 ≤ get_or old i 0) → get_or fresh j None ≡ None
      → Merging old vs ks fresh (past old i (get_or ks j 0)) (j + 1) k cells values
  merging-none l before is =
      let next = merged-listed old vs ks fresh i j (take k cells) (take k values) rises ks_rise full fresh_full
      m.merged l before in
      record {
        merged = subst (Merged old vs ks fresh (drop (j + 1) fresh) (past old i (get_or ks j 0)) (j + 1) (take k cells))
            (ap (λ o. take k values ++ option_to_list o) is ∙ append-nil (take k values))
            (subst (λ d. Merged old vs ks fresh (drop (j + 1) fresh) (past old i (get_or ks j 0)) (j + 1) d
            (take k values ++ option_to_list (get_or fresh j None)))
            (ap (λ o. take k cells ++ option_to_list (option_map (λ _. get_or ks j 0) o)) is
            ∙ append-nil (take k cells)) next);
        count = omega (arith, m.count, past-on old i (get_or ks j 0));
        cell_room = m.cell_room;
        value_room = m.value_room;
      }

  -- all cells are merged
  pub merging-done : length old ≤ i → length ks ≤ j → IsMerge old vs ks fresh k cells values
  merging-done l n = record {
    line = m.merged.line;
    entries = merged-all old vs ks fresh (drop j fresh) i j (take k cells) (take k values) m.merged l n;
  }

-- fresh values by their entries
pub value-fresh : {A : Type 0} (f : ℕ → Option A) (es : List ℕ) (j : ℕ) (o : Option A) → j < length es
    → f (get_or es j 0) ≡ o → get_or (map f es) j None ≡ o
value-fresh f es j o l is = get_or-map f es j 0 None l ∙ is

pub value-there : {A : Type 0} (v : A) (e : ℕ) → e ≢ 0 → value_if v e ≡ Some v
value-there v e n = ap (λ b. cond b None (Some v)) (ne_eqb e 0 n)

pub value-none : {A : Type 0} (v : A) (e : ℕ) → e ≡ 0 → value_if v e ≡ None
value-none v e z = ap (λ b. cond b None (Some v)) (eq-eqb e 0 z)

pub strided-count : (xs : List ℕ) (at step n : ℕ) → length (strided xs at step n) ≡ n
strided-count xs at step zero = refl
strided-count xs at step (suc n) = ap suc (strided-count xs (at + step) step n)

pub strided-at : (xs : List ℕ) (at step n j : ℕ) → j < n → get_or (strided xs at step n) j 0
    ≡ get_or xs (at + j * step) 0
strided-at xs at step zero j l = absurd (omega arith)
strided-at xs at step (suc n) zero l = let e : at ≡ at + zero * step = omega arith in ap (λ k. get_or xs k 0) e
strided-at xs at step (suc n) (suc j) l =
    let e : (at + step) + j * step ≡ at + suc j * step = omega arith in
    strided-at xs (at + step) step n j (omega arith) ∙ ap (λ k. get_or xs k 0) e
