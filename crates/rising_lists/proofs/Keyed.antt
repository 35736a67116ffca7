-- Rising lists of cells, and look-ups in them by place.
use Rattle.std.proofs.Common.{◌≡◌, ◌≢◌, ℕ, zero, suc, ◌<◌, ◌≤◌, Bool, true, false, cond, ◌||◌, refl, sym, ap, ◌∙◌}
use Rattle.std.proofs.Common.{subst, arith, ◌⊎◌, inl, inr, List, [], ◌∷◌, length, get_or, Option, Some, None, eqb, Err}
use Rattle.std.proofs.Common.{set}
use Rattle.std.proofs.lemmas.Bool.{eq-eqb, ne_eqb, cases_eq, cases_lt}
use Rattle.std.proofs.lemmas.List.Sorted.{searched}
use Rattle.std.specs.List.{remove}
use Rattle.std.specs.List.Sorted.{IsBinarySearchResult}
use Rattle.std.specs.Option.{is_some, option_map}
use Rattle.std.specs.Ordering.{nat_cmp}
use Rattle.rising_lists.specs.Rising.{IsRising, has, look}

pub rising_tail : (k : ℕ) (ks : List ℕ) → IsRising (k ∷ ks) → IsRising ks
rising_tail k ks r i j l m = r (suc i) (suc j) (omega arith) (omega arith)

pub rising_head : (k : ℕ) (ks : List ℕ) → IsRising (k ∷ ks) → (i : ℕ) → i < length ks → k < get_or ks i 0
rising_head k ks r i l = r 0 (suc i) (omega arith) (omega arith)

pub rising_cons : (k : ℕ) (ks : List ℕ) → ((i : ℕ) → i < length ks → k < get_or ks i 0) → IsRising ks
    → IsRising (k ∷ ks)
rising_cons k ks above r zero zero l m = absurd (omega arith)
rising_cons k ks above r zero (suc j) l m = above j (omega arith)
rising_cons k ks above r (suc i) zero l m = absurd (omega arith)
rising_cons k ks above r (suc i) (suc j) l m = r i j (omega arith) (omega arith)

pub rising_le : (ks : List ℕ) → IsRising ks → (i j : ℕ) → i ≤ j → j < length ks → get_or ks i 0 ≤ get_or ks j 0
rising_le ks r i j l m = elim (cases_lt i j) [
  | inl n ↦ omega (arith, r i j n m)
  | inr n ↦ let e : i ≡ j = omega arith in subst (λ x. get_or ks x 0 ≤ get_or ks j 0) (sym e) (omega arith)
]

or_true : (b : Bool) → (b || true) ≡ true
or_true true = refl
or_true false = refl

-- a cell that is at no place is not listed
pub has-absent : (c : ℕ) (ks : List ℕ) → ((i : ℕ) → i < length ks → get_or ks i 0 ≢ c) → has c ks ≡ false
has-absent c [] n = refl
has-absent c (k ∷ ks) n = rw (ne_eqb k c (n 0 (omega arith))) (has-absent c ks (λ i l. n (suc i) (omega arith)))

pub has-at : (ks : List ℕ) (i : ℕ) → i < length ks → has (get_or ks i 0) ks ≡ true
has-at [] i l = absurd (omega arith)
has-at (k ∷ ks) zero l = rw (eq-eqb k k refl) refl
has-at (k ∷ ks) (suc i) l = rw (has-at ks i (omega arith)) (or_true (eqb k (get_or ks i 0)))

-- where a listed cell stands
pub record Place (ks : List ℕ) (c : ℕ) : Type 0 where
  pub at : ℕ
  pub inside : at < length ks
  pub is : get_or ks at 0 ≡ c

pub place_of : (ks : List ℕ) (c : ℕ) → has c ks ≡ true → Place ks c
place_of [] c h = cc
place_of (k ∷ ks) c h = go (cases_eq k c) (λ m. place_of ks c m) h
  where
    go : (k ≡ c) ⊎ (k ≡ c → ⊥) → (has c ks ≡ true → Place ks c) → (eqb k c || has c ks) ≡ true → Place (k ∷ ks) c
    go (inl e) f h = record { at = 0; inside = omega arith; is = e }
    go (inr n) f h = let h' = rw (ne_eqb k c n) at h in let p = f h' in
        record { at = suc p.at; inside = omega (arith, p.inside); is = p.is }

-- what a binary search that fails tells
pub not_found : (ks : List ℕ) (c at : ℕ) → IsRising ks → IsBinarySearchResult (λ y. nat_cmp y c) ks (Err at)
    → has c ks ≡ false
not_found ks c at r s =
    let f : _ = searched ks c (Err at) s (rising_le ks r) in
    has-absent c ks (λ i l e. elim (cases_lt i at) [
      | inl n ↦ absurd (omega (arith, f.1 i n, e))
      | inr n ↦
          absurd (omega (arith, f.2 i n l, e))
    ])

pub head-absent : (k : ℕ) (ks : List ℕ) → IsRising (k ∷ ks) → has k ks ≡ false
head-absent k ks r = has-absent k ks (λ i l e. absurd (omega (arith, rising_head k ks r i l)))

pub look-absent : {A : Type 0} (c : ℕ) (ks : List ℕ) (vs : List A) → has c ks ≡ false → look c ks vs ≡ None
look-absent c [] vs n = refl
look-absent c (k ∷ ks) [] n = refl
look-absent {A} c (k ∷ ks) (v ∷ vs) n = go (eqb k c) (λ m. look-absent c ks vs m) n
  where
    go : (b : Bool) → (has c ks ≡ false → look c ks vs ≡ None) → (b || has c ks) ≡ false
        → cond b (Some v) (look c ks vs) ≡ None
    go true h m = cc
    go false h m = h m

pub is_some-look : {A : Type 0} (c : ℕ) (ks : List ℕ) (vs : List A) → length vs ≡ length ks → is_some (look c ks vs)
    ≡ has c ks
is_some-look c [] vs e = refl
is_some-look c (k ∷ ks) [] e = absurd (omega arith)
is_some-look {A} c (k ∷ ks) (v ∷ vs) e = go (eqb k c) (is_some-look c ks vs (omega arith))
  where
    go : (b : Bool) → is_some (look c ks vs) ≡ has c ks → is_some (cond b (Some v) (look c ks vs)) ≡ (b || has c ks)
    go true m = refl
    go false m = m

pub look-at : {A : Type 0} (ks : List ℕ) (vs : List A) → length vs ≡ length ks → IsRising ks → (i : ℕ) (d : A) → i
    < length ks
    → look (get_or ks i 0) ks vs ≡ Some (get_or vs i d)
look-at [] vs s r i d l = absurd (omega arith)
look-at (k ∷ ks) [] s r i d l = absurd (omega arith)
look-at (k ∷ ks) (v ∷ vs) s r zero d l = rw (eq-eqb k k refl) refl
look-at (k ∷ ks) (v ∷ vs) s r (suc i) d l =
    let apart : k ≢ get_or ks i 0 = λ f. absurd (omega (arith, rising_head k ks r i (omega arith))) in
    rw (ne_eqb k (get_or ks i 0) apart) (look-at ks vs (omega arith) (rising_tail k ks r) i d (omega arith))

-- what stands at the place of a cell
pub look-found : {A : Type 0} (ks : List ℕ) (vs : List A) (c i : ℕ) (v : A) → length vs ≡ length ks → IsRising ks → i
    < length ks → get_or ks i 0 ≡ c
    → v ≡ get_or vs i v → look c ks vs ≡ Some v
look-found ks vs c i v s r l e w = ap (λ x. look x ks vs) (sym e) ∙ look-at ks vs s r i v l ∙ ap Some (sym w)

pub look-set : {A : Type 0} (ks : List ℕ) (vs : List A) → length vs ≡ length ks → IsRising ks → (i : ℕ) (v : A) → i
    < length ks → (q : ℕ)
    → look q ks (set vs i v) ≡ cond (eqb q (get_or ks i 0)) (Some v) (look q ks vs)
look-set [] vs s r i v l q = absurd (omega arith)
look-set (k ∷ ks) [] s r i v l q = absurd (omega arith)
look-set {A} (k ∷ ks) (u ∷ vs) s r zero v l q = go (cases_eq q k)
  where
    go : (q ≡ k) ⊎ (q ≡ k → ⊥) → cond (eqb k q) (Some v) (look q ks vs) ≡ cond (eqb q k) (Some v)
        (cond (eqb k q) (Some u) (look q ks vs))
    go (inl e) = rw (eq-eqb q k e, eq-eqb k q (sym e)) refl
    go (inr n) = rw (ne_eqb q k n, ne_eqb k q (λ e. n (sym e))) refl
look-set {A} (k ∷ ks) (u ∷ vs) s r (suc i) v l q =
    go (cases_eq k q) (look-set ks vs (omega arith) (rising_tail k ks r) i v (omega arith) q)
  where
    go : (k ≡ q) ⊎ (k ≡ q → ⊥) → look q ks (set vs i v) ≡ cond (eqb q (get_or ks i 0)) (Some v) (look q ks vs)
        → cond (eqb k q) (Some u) (look q ks (set vs i v)) ≡ cond (eqb q (get_or ks i 0)) (Some v)
        (cond (eqb k q) (Some u) (look q ks vs))
    go (inl e) h =
        let apart : q ≢ get_or ks i 0 = λ f. absurd (omega (arith, rising_head k ks r i (omega arith))) in
        rw (eq-eqb k q e, ne_eqb q (get_or ks i 0) apart) refl
    go (inr n) h = rw (ne_eqb k q n) h

pub rising-remove : (ks : List ℕ) → IsRising ks → (i : ℕ) → i < length ks → IsRising (remove ks i)
rising-remove [] r i l = absurd (omega arith)
rising-remove (k ∷ ks) r zero l = rising_tail k ks r
rising-remove (k ∷ ks) r (suc i) l =
    rising_cons k (remove ks i) (above ks i (rising_head k ks r))
    (rising-remove ks (rising_tail k ks r) i (omega arith))
  where
    above : (xs : List ℕ) (i : ℕ) → ((j : ℕ) → j < length xs → k < get_or xs j 0) → (j : ℕ) → j < length (remove xs i)
        → k < get_or (remove xs i) j 0
    above [] zero a j m = absurd (omega arith)
    above [] (suc i) a j m = absurd (omega arith)
    above (x ∷ xs) zero a j m = a (suc j) (omega arith)
    above (x ∷ xs) (suc i) a zero m = a 0 (omega arith)
    above (x ∷ xs) (suc i) a (suc j) m = above xs i (λ n o. a (suc n) (omega arith)) j (omega arith)

pub look-remove : {A : Type 0} (ks : List ℕ) (vs : List A) → length vs ≡ length ks → IsRising ks → (i : ℕ) → i
    < length ks → (q : ℕ)
    → look q (remove ks i) (remove vs i) ≡ cond (eqb q (get_or ks i 0)) None (look q ks vs)
look-remove [] vs s r i l q = absurd (omega arith)
look-remove (k ∷ ks) [] s r i l q = absurd (omega arith)
look-remove {A} (k ∷ ks) (v ∷ vs) s r zero l q = go (cases_eq q k)
  where
    go : (q ≡ k) ⊎ (q ≡ k → ⊥) → look q ks vs ≡ cond (eqb q k) None (cond (eqb k q) (Some v) (look q ks vs))
    go (inl e) = rw (eq-eqb q k e) (look-absent q ks vs (ap (λ x. has x ks) e ∙ head-absent k ks r))
    go (inr n) = rw (ne_eqb q k n, ne_eqb k q (λ e. n (sym e))) refl
look-remove {A} (k ∷ ks) (v ∷ vs) s r (suc i) l q =
    go (cases_eq k q) (look-remove ks vs (omega arith) (rising_tail k ks r) i (omega arith) q)
  where
    go : (k ≡ q) ⊎ (k ≡ q → ⊥) → look q (remove ks i) (remove vs i) ≡ cond (eqb q (get_or ks i 0)) None (look q ks vs)
        → cond (eqb k q) (Some v) (look q (remove ks i) (remove vs i)) ≡ cond (eqb q (get_or ks i 0)) None
        (cond (eqb k q) (Some v) (look q ks vs))
    go (inl e) h =
        let apart : q ≢ get_or ks i 0 = λ f. absurd (omega (arith, rising_head k ks r i (omega arith))) in
        rw (eq-eqb k q e, ne_eqb q (get_or ks i 0) apart) refl
    go (inr n) h = rw (ne_eqb k q n) h

-- a value put at the place of a cell
pub look-put : {A : Type 0} (ks : List ℕ) (vs : List A) (c i : ℕ) (v : A) → length vs ≡ length ks → IsRising ks → i
    < length ks → get_or ks i 0 ≡ c → (q : ℕ)
    → look q ks (set vs i v) ≡ cond (eqb q c) (option_map (λ _. v) (look c ks vs)) (look q ks vs)
look-put ks vs c i v s r l e q =
    look-set ks vs s r i v l q
    ∙ ap (λ x. cond (eqb q x) (Some v) (look q ks vs)) e
    ∙ ap (λ x. cond (eqb q c) x (look q ks vs))
    (sym (ap (option_map (λ _. v)) (ap (λ x. look x ks vs) (sym e) ∙ look-at ks vs s r i v l)))

-- a cell taken out with its value
pub look-taken : {A : Type 0} (ks : List ℕ) (vs : List A) (c i : ℕ) → length vs ≡ length ks → IsRising ks → i
    < length ks → get_or ks i 0 ≡ c → (q : ℕ)
    → look q (remove ks i) (remove vs i) ≡ cond (eqb q c) None (look q ks vs)
look-taken ks vs c i s r l e q = look-remove ks vs s r i l q ∙ ap (λ x. cond (eqb q x) None (look q ks vs)) e

-- a change at a cell that has no value changes nothing
pub look-spared : {A : Type 0} (ks : List ℕ) (vs : List A) (c q : ℕ) (x : Option A) → has c ks ≡ false → x ≡ None
    → look q ks vs ≡ cond (eqb q c) x (look q ks vs)
look-spared {A} ks vs c q x n none = go (cases_eq q c)
  where
    go : (q ≡ c) ⊎ (q ≡ c → ⊥) → look q ks vs ≡ cond (eqb q c) x (look q ks vs)
    go (inl e) = rw (eq-eqb q c e) (look-absent q ks vs (ap (λ x. has x ks) e ∙ n) ∙ sym none)
    go (inr m) = rw (ne_eqb q c m) refl
