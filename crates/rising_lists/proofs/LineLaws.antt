-- Lines by cell, when one of them changes.
use Rattle.std.proofs.Common.{◌≡◌, ℕ, zero, suc, ◌<◌, Bool, true, false, cond, ◌||◌, ◌&&◌, refl, sym, ap, ◌∙◌, inl, inr}
use Rattle.std.proofs.Common.{List, [], ◌∷◌, ◌++◌, length, get_or, set, replicate, take, drop, append_assoc, Option}
use Rattle.std.proofs.Common.{Some, None, eqb}
use Rattle.std.specs.Option.{unwrap_or, is_some}
use Rattle.std.proofs.lemmas.List.{take_at, drop_at, take-append-drop}
use Rattle.std.proofs.lemmas.Bool.{eq-eqb, ne_eqb, cases_eq, eqb-true, cases_Bool}
use Rattle.rising_lists.specs.Rising.{has, look, IsLine, ByCell, entry, line_of, entry_of}
use Rattle.rising_lists.proofs.Keyed.{has-at, look-set, look-found, look-absent, is_some-look}

abbrev pub no_line : {A : Type 0} → ByCell A
no_line = record { cells = []; values = [] }

-- the line at the place of a cell
pub line-found : {A : Type 0} (ks : List ℕ) (vs : List (ByCell A)) (c i : ℕ) (v : ByCell A)
    → IsLine {A = ByCell A} (record { cells = ks; values = vs }) → i < length ks → get_or ks i 0 ≡ c
    → v ≡ get_or vs i v → line_of {A = A} (record { cells = ks; values = vs }) c ≡ v
line-found {A} ks vs c i v line l e w = ap (λ x. unwrap_or x (no_line {A = A}))
    (look-found ks vs c i v line.full line.rising l e w)

pub line-absent : {A : Type 0} (ks : List ℕ) (vs : List (ByCell A)) (c : ℕ) → has c ks ≡ false
    → line_of {A = A} (record { cells = ks; values = vs }) c ≡ no_line
line-absent {A} ks vs c n = ap (λ x. unwrap_or x (no_line {A = A})) (look-absent c ks vs n)

-- another line at the place of a cell
pub line-set : {A : Type 0} (ks : List ℕ) (vs : List (ByCell A)) (c i : ℕ) (v : ByCell A)
    → IsLine {A = ByCell A} (record { cells = ks; values = vs }) → i < length ks → get_or ks i 0 ≡ c
    → (k : ℕ) → line_of {A = A} (record { cells = ks; values = set vs i v }) k
    ≡ cond (eqb k c) v (line_of {A = A} (record { cells = ks; values = vs }) k)
line-set {A} ks vs c i v line l e k =
    ap (λ x. unwrap_or x (no_line {A = A})) (look-set ks vs line.full line.rising i v l k
    ∙ ap (λ x. cond (eqb k x) (Some v) (look k ks vs)) e)
    ∙ spread (eqb k c)
  where
    spread : (b : Bool) → unwrap_or (cond b (Some v) (look k ks vs)) (no_line {A = A})
        ≡ cond b v (unwrap_or (look k ks vs) (no_line {A = A}))
    spread true = refl
    spread false = refl

pub and-true : (b : Bool) → (b && true) ≡ b
and-true true = refl
and-true false = refl

pub line-put : {A : Type 0} (ks : List ℕ) (vs : List (ByCell A)) (c i : ℕ) (v : ByCell A)
    → IsLine {A = ByCell A} (record { cells = ks; values = vs }) → i < length ks → get_or ks i 0 ≡ c
    → (k : ℕ) → line_of {A = A} (record { cells = ks; values = set vs i v }) k ≡ cond (eqb k c && has c ks) v
    (line_of {A = A} (record { cells = ks; values = vs }) k)
line-put {A} ks vs c i v line l e k =
    line-set ks vs c i v line l e k
    ∙ ap (λ b. cond b v (line_of {A = A} (record { cells = ks; values = vs }) k)) (sym (and-true (eqb k c))
    ∙ ap (λ b. eqb k c && b) (sym (ap (λ x. has x ks) (sym e) ∙ has-at ks i l)))

-- an empty line at a cell
pub entry-cleared : {A : Type 0} (lines : ByCell (ByCell A)) (new : ByCell A) (c k p : ℕ)
    → new ≡ cond (eqb k c && has c lines.cells) no_line (line_of lines k)
    → entry new p ≡ cond (eqb k c) None (entry_of lines k p)
entry-cleared {A} lines new c k p e = ap (λ l. entry l p) e ∙ go (eqb k c) (has c lines.cells) refl (eqb-true k c)
  where
    go : (b h : Bool) → has c lines.cells ≡ h → (b ≡ true → k ≡ c)
        → entry (cond (b && h) (no_line {A = A}) (line_of lines k)) p ≡ cond b None (entry_of lines k p)
    go true true n f = refl
    go true false n f = ap (λ l. entry l p) (ap (line_of lines) (f refl) ∙ line-absent lines.cells lines.values c n)
    go false h n f = refl

-- the cells of the line at a cell
pub cells-found : {A : Type 0} (ks : List ℕ) (vs : List (ByCell A)) (c i : ℕ) (v : ByCell A)
    → IsLine {A = ByCell A} (record { cells = ks; values = vs }) → i < length ks → get_or ks i 0 ≡ c
    → v ≡ get_or vs i v → IsLine v → (q : ℕ)
    → has q v.cells ≡ is_some (entry_of {A = A} (record { cells = ks; values = vs }) c q)
cells-found {A} ks vs c i v line l e w inner q =
    sym (is_some-look q v.cells v.values inner.full)
    ∙ ap (λ z. is_some (entry z q)) (sym (line-found ks vs c i v line l e w))

-- the line at a cell changed at one cell
pub entry-set : {A : Type 0} (ks : List ℕ) (vs : List (ByCell A)) (c i q : ℕ) (v v' : ByCell A) (x : Option A)
    → IsLine {A = ByCell A} (record { cells = ks; values = vs }) → i < length ks → get_or ks i 0 ≡ c
    → v ≡ get_or vs i v → ((p : ℕ) → entry v' p ≡ cond (eqb p q) x (entry v p))
    → (k p : ℕ) → entry_of {A = A} (record { cells = ks; values = set vs i v' }) k p ≡ cond (eqb k c && eqb p q) x
    (entry_of {A = A} (record { cells = ks; values = vs }) k p)
entry-set {A} ks vs c i q v v' x line l e w h k p =
    ap (λ z. entry z p) (line-set ks vs c i v' line l e k) ∙ go (eqb k c) (eqb-true k c)
  where
    before : ℕ → ByCell A
    before n = line_of {A = A} (record { cells = ks; values = vs }) n

    go : (b : Bool) → (b ≡ true → k ≡ c) → entry (cond b v' (line_of {A = A} (record { cells = ks; values = vs }) k)) p
        ≡ cond (b && eqb p q) x (entry_of {A = A} (record { cells = ks; values = vs }) k p)
    go true f =
        h p ∙ ap (λ z. cond (eqb p q) x (entry z p))
        (sym (ap (λ n. line_of {A = A} (record { cells = ks; values = vs }) n) (f refl)
        ∙ line-found ks vs c i v line l e w))
    go false f = refl

-- what does not stand cannot change
pub entry-spared : {A : Type 0} (lines : ByCell (ByCell A)) (c q : ℕ) (x : Option A) → has c lines.cells ≡ false
    → x ≡ None
    → (k p : ℕ) → entry_of lines k p ≡ cond (eqb k c && eqb p q) x (entry_of lines k p)
entry-spared {A} lines c q x n none k p = go (eqb k c) (eqb-true k c)
  where
    go : (b : Bool) → (b ≡ true → k ≡ c) → entry_of lines k p ≡ cond (b && eqb p q) x (entry_of lines k p)
    go true f =
        let absent : entry_of lines k p ≡ None = ap (λ z. entry z p) (ap (line_of lines) (f refl)
        ∙ line-absent lines.cells lines.values c n) in
        elim (cases_Bool (eqb p q)) [
          | inl e ↦ absent ∙ sym none ∙ sym (ap (λ b. cond b x (entry_of lines k p)) e)
          | inr e ↦ sym (ap (λ b. cond b x (entry_of lines k p)) e)
        ]
    go false f = refl

pub has-push : (q : ℕ) (ks : List ℕ) (k : ℕ) → has q (ks ++ k ∷ []) ≡ (has q ks || eqb q k)
has-push q [] k = elim (cases_eq k q) [
  | inl e ↦ rw (eq-eqb k q e, eq-eqb q k (sym e)) refl
  | inr n ↦ rw (ne_eqb k q n, ne_eqb q k (λ e. n (sym e))) refl
]
has-push q (x ∷ ks) k = go (eqb x q) (has-push q ks k)
  where
    go : (b : Bool) → has q (ks ++ k ∷ []) ≡ (has q ks || eqb q k) → (b || has q (ks ++ k ∷ []))
        ≡ ((b || has q ks) || eqb q k)
    go true h = refl
    go false h = h

-- one more line without the cell
pub removed-more : {A : Type 0} (here there cell : Bool) (x : Option A)
    → cond (here && cell) None (cond (there && cell) None x) ≡ cond ((there || here) && cell) None x
removed-more true true true x = refl
removed-more true true false x = refl
removed-more true false true x = refl
removed-more true false false x = refl
removed-more false true true x = refl
removed-more false true false x = refl
removed-more false false cell x = refl

-- empty lines
pub lines-empty : {A : Type 0} (ks : List ℕ) (n c : ℕ)
    → line_of {A = A} (record { cells = ks; values = replicate n no_line }) c ≡ no_line
lines-empty {A} [] n c = refl
lines-empty {A} (k ∷ ks) zero c = refl
lines-empty {A} (k ∷ ks) (suc n) c = go (eqb k c) (lines-empty {A = A} ks n c)
  where
    go : (b : Bool) → line_of {A = A} (record { cells = ks; values = replicate n no_line }) c ≡ no_line
        → unwrap_or (cond b (Some (no_line {A = A})) (look c ks (replicate n (no_line {A = A})))) (no_line {A = A})
        ≡ no_line
    go true h = refl
    go false h = h

-- the last of the lines that are left to put
pub record Popped {A : Type 0} (xs : List A) (x : A) (ys zs : List A) : Type 0 where
  pub left : xs ≡ take (length xs) zs
  pub next : drop (length xs) zs ≡ x ∷ drop (length ys) zs

pub popped : {A : Type 0} (xs : List A) (x : A) (ys zs : List A) → ys ≡ xs ++ x ∷ [] → ys ≡ take (length ys) zs
    → Popped xs x ys zs
popped xs x ys zs e h =
    let whole : zs ≡ xs ++ (x ∷ drop (length ys) zs) =
    sym (take-append-drop (length ys) zs) ∙ ap (λ t. t ++ drop (length ys) zs) (sym h ∙ e)
    ∙ append_assoc xs (x ∷ []) (drop (length ys) zs) in
    record {
      left = sym (ap (take (length xs)) whole ∙ take_at xs (x ∷ drop (length ys) zs) (length xs) refl);
      next = ap (drop (length xs)) whole ∙ drop_at xs (x ∷ drop (length ys) zs) (length xs) refl;
    }

pub installed : {A : Type 0} (k cell : ℕ) (line old : ByCell A) (o : Option (ByCell A))
    → cond (eqb k cell) line (unwrap_or o old) ≡ unwrap_or (cond (eqb cell k) (Some line) o) old
installed k cell line old o = elim (cases_eq k cell) [
  | inl e ↦ rw (eq-eqb k cell e, eq-eqb cell k (sym e)) refl
  | inr n ↦ rw (ne_eqb k cell n, ne_eqb cell k (λ e. n (sym e))) refl
]
