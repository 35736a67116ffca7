-- Right replies to a class: those for the start complex and those for the whole one, and that only one is right.
use Rattle.std.proofs.Common.{◌≡◌, ◌||◌, ◌<◌, ℕ, zero, suc, Bool, true, false, cond, eqb, List, [], ◌∷◌, All, ⊎_elim}
use Rattle.std.proofs.Common.{map, filter, take, drop, refl, sym, ap, ap₂, subst, ◌∙◌, arith}
use Rattle.std.specs.Prelude.{◌==◌, not}
use Rattle.std.proofs.lemmas.Bool.{eqb-true, cases_order}
use Rattle.std.proofs.lemmas.List.Elements.{All-nil, All-cons, All-head, All-tail, All-take, All-drop}
use Rattle.dense_blocks.specs.Field.{Ops}
use Rattle.dense_blocks.specs.Vectors.{IsVector, zeros, plus, combination}
use Rattle.rising_lists.specs.Rising.{has}
use Rattle.cochain_vec.specs.declared.cell.Cell.{Cell}
use Rattle.cochain_vec.specs.Complexes.{CellularComplex, cells_of, coordinates, value_at, IsCochain, coboundary}
use Rattle.cochain_vec.specs.Cohomology.{IsCocycle, IsBasis}
use Rattle.cochain_vec.specs.Stalkless.{HasRisingCells}
use Rattle.cochain_vec.proofs.StalklessLaws.{has_coordinates, rising-filter}
use Rattle.block_complexes.specs.Cochains.{cell_of}
use Rattle.coboundary.specs.Start.{with_stalks}
use Rattle.coboundary.specs.StartCoboundary.{HaveSameCoboundary}
use Rattle.cocycle_bases.specs.Classes.{numbers, IsZeroAt, IsFirstNonzeroCell, IsFirstOpen, IsCochainBelow, IsClass}
use Rattle.cocycle_bases.specs.Classes.{coboundary_below}
use Rattle.sheaf_words.specs.declared.reply.Reply.{Reply as Answer}
use Rattle.sheaf_words.specs.declared.reply.Reply.TheVariants as replies
use Rattle.core_machine.specs.Replies.{IsRightClass}

-- ---- cells without coordinates, and the first cell at which a cochain is not zero

-- a cell that is not listed has no value
value-none : (cs : List Cell) (z : List ℕ) (s : ℕ) → has s (numbers cs) ≡ false → value_at cs z s ≡ []
value-none [] z s h = refl
value-none (c ∷ cs) z s h = go (eqb c.cell s) h (value-none cs (drop c.size z) s)
  where
    go : (e : Bool) → (e || has s (numbers cs)) ≡ false
        → (has s (numbers cs) ≡ false → value_at cs (drop c.size z) s ≡ [])
        → cond e (take c.size z) (value_at cs (drop c.size z) s) ≡ []
    go true m r = cc
    go false m r = r m

pub none-before : (cs : List Cell) (s : ℕ) → All (λ (d : Cell). s < d.cell) cs → has s (numbers cs) ≡ false
none-before [] s h = refl
none-before (c ∷ cs) s h = go (eqb c.cell s) refl (none-before cs s (All-tail (λ (d : Cell). s < d.cell) c cs h))
  where
    go : (e : Bool) → eqb c.cell s ≡ e → has s (numbers cs) ≡ false → (e || has s (numbers cs)) ≡ false
    go true e r = absurd (omega (arith, eqb-true c.cell s e, All-head (λ (d : Cell). s < d.cell) c cs h))
    go false e r = r

-- where a cell has no coordinates, it has no value
pub size-none : (c : Cell) → has_coordinates c ≡ false → c.size ≡ 0
size-none c h = go (c.size == 0) refl h
  where
    go : (b : Bool) → (c.size == 0) ≡ b → not b ≡ false → c.size ≡ 0
    go true e f = eqb-true c.size 0 e
    go false e f = cc

-- without the cells that have no coordinates, each cell has the same value
pub value-kept : (cs : List Cell) (z : List ℕ) (s : ℕ) → HasRisingCells cs
    → value_at (filter has_coordinates cs) z s ≡ value_at cs z s
value-kept [] z s h = refl
value-kept (c ∷ cs) z s h = go (has_coordinates c) (eqb c.cell s) refl refl (λ y. value-kept cs y s h.1)
  where
    go : (b e : Bool) → has_coordinates c ≡ b → eqb c.cell s ≡ e
        → ((y : List ℕ) → value_at (filter has_coordinates cs) y s ≡ value_at cs y s)
        → value_at (cond b (c ∷ filter has_coordinates cs) (filter has_coordinates cs)) z s
        ≡ cond e (take c.size z) (value_at cs (drop c.size z) s)
    go true true f g r = rw g refl
    go true false f g r = rw g (r (drop c.size z))
    go false true f g r =
        r z ∙ value-none cs z s
        (none-before cs s (subst (λ k. All (λ (d : Cell). k < d.cell) cs) (eqb-true c.cell s g) h.0))
        ∙ ap (λ n. take n z) (sym (size-none c f))
    go false false f g r = r z ∙ ap (λ n. value_at cs (drop n z) s) (sym (size-none c f))

or-later : (e b : Bool) → b ≡ true → (e || b) ≡ true
or-later true b h = refl
or-later false b h = h

or-over : (e a b : Bool) → (a ≡ true → b ≡ true) → (e || a) ≡ true → (e || b) ≡ true
or-over true a b over h = refl
or-over false a b over h = over h

has-kept : (cs : List Cell) (s : ℕ) → has s (numbers (filter has_coordinates cs)) ≡ true → has s (numbers cs) ≡ true
has-kept [] s h = h
has-kept (c ∷ cs) s h = go (has_coordinates c) h (has-kept cs s)
  where
    go : (b : Bool)
        → has s (numbers (cond b (c ∷ filter has_coordinates cs) (filter has_coordinates cs))) ≡ true
        → (has s (numbers (filter has_coordinates cs)) ≡ true → has s (numbers cs) ≡ true)
        → (eqb c.cell s || has s (numbers cs)) ≡ true
    go true m over =
        or-over (eqb c.cell s) (has s (numbers (filter has_coordinates cs))) (has s (numbers cs)) over m
    go false m over = or-later (eqb c.cell s) (has s (numbers cs)) (over m)

first-kept : (cs : List Cell) (z : List ℕ) (t : ℕ) → HasRisingCells cs
    → IsFirstNonzeroCell (filter has_coordinates cs) z t → IsFirstNonzeroCell cs z t
first-kept cs z t rising h = record {
  cell = has-kept cs t h.cell;
  nonzero = λ zero. h.nonzero (subst (All (λ a. a ≡ 0)) (sym (value-kept cs z t rising)) zero);
  zero_before = λ s listed l. subst (All (λ a. a ≡ 0)) (value-kept cs z s rising)
      (before s l (has s (numbers (filter has_coordinates cs))) refl);
}
  where
    before : (s : ℕ) → s < t → (b : Bool) → has s (numbers (filter has_coordinates cs)) ≡ b
        → IsZeroAt (filter has_coordinates cs) z s
    before s l true e = h.zero_before s e l
    before s l false e = subst (All (λ a. a ≡ 0)) (sym (value-none (filter has_coordinates cs) z s e))
        (All-nil (λ a. a ≡ 0))

-- there is one first cell
first-unique : (cs : List Cell) (z : List ℕ) (s t : ℕ) → IsFirstNonzeroCell cs z s → IsFirstNonzeroCell cs z t → s ≡ t
first-unique cs z s t h k = ⊎_elim (λ (e : s ≡ t). e)
    (λ o. ⊎_elim (λ (l : s < t). absurd (h.nonzero (k.zero_before s h.cell l)))
    (λ (l : t < s). absurd (k.nonzero (h.zero_before t k.cell l))) o)
    (cases_order s t)

-- the zero cochain is zero at each cell
zeros-all : (n : ℕ) → All (λ a. a ≡ 0) (zeros n)
zeros-all zero = All-nil (λ a. a ≡ 0)
zeros-all (suc n) = All-cons (λ a. a ≡ 0) 0 (zeros n) refl (zeros-all n)

zero-at : (cs : List Cell) (z : List ℕ) (t : ℕ) → All (λ a. a ≡ 0) z → IsZeroAt cs z t
zero-at [] z t h = All-nil (λ a. a ≡ 0)
zero-at (c ∷ cs) z t h = elim (eqb c.cell t)
    as (λ b. All (λ a. a ≡ 0) (cond b (take c.size z) (value_at cs (drop c.size z) t))) [
      | true ↦ All-take (λ a. a ≡ 0) c.size z h
      | false ↦ zero-at cs (drop c.size z) t (All-drop (λ a. a ≡ 0) c.size z h)
    ]

-- of each degree the live cells of a start complex are those of the sheaf that have a stalk
pub start-cells : (k : ℕ) (cs : List Cell)
    → filter (λ c. c.degree == k) (map cell_of (with_stalks cs))
    ≡ filter has_coordinates (filter (λ c. c.degree == k) cs)
start-cells k [] = refl
start-cells k (c ∷ cs) = go (has_coordinates c) (c.degree == k) refl refl (start-cells k cs)
  where
    go : (x y : Bool) → has_coordinates c ≡ x → (c.degree == k) ≡ y
        → filter (λ c. c.degree == k) (map cell_of (with_stalks cs))
        ≡ filter has_coordinates (filter (λ c. c.degree == k) cs)
        → filter (λ c. c.degree == k) (map cell_of (map (λ (c : Cell). (c.cell, c.degree, c.size))
        (cond x (c ∷ filter has_coordinates cs) (filter has_coordinates cs))))
        ≡ filter has_coordinates
        (cond y (c ∷ filter (λ c. c.degree == k) cs) (filter (λ c. c.degree == k) cs))
    go true true e f r = rw (f, e) (ap (λ t. c ∷ t) r)
    go true false e f r = rw f r
    go false true e f r = rw e r
    go false false e f r = r

-- ---- right for another complex

-- D has the cochains, the coboundary and the bases of C, and the first cell at which a coboundary is not zero
pub record AreAlike (K : Ops) (C D : CellularComplex) : Type 0 where
  pub same : HaveSameCoboundary K C D
  pub bases : (k : ℕ) (B : List (List ℕ)) → IsBasis K C k B → IsBasis K D k B
  pub cells : (k : ℕ) → cells_of C k ≡ filter has_coordinates (cells_of D k)
  pub rising : HasRisingCells D.cells

module _ (K : Ops) (C D : CellularComplex) (like : AreAlike K C D) where
  cochain-over : (k : ℕ) (z : List ℕ) → IsCochain K C k z → IsCochain K D k z
  cochain-over k z h = subst (λ n. IsVector K n z) (like.same.sizes k) h

  pub cocycle-over : (k : ℕ) (z : List ℕ) → IsCocycle K C k z → IsCocycle K D k z
  cocycle-over k z h = record {
    cochain = cochain-over k z h.cochain;
    closed = sym (like.same.maps k z) ∙ h.closed ∙ ap zeros (like.same.sizes (suc k));
  }

  open-over : (k : ℕ) (z : List ℕ) (t : ℕ) → IsFirstOpen K C k z t → IsFirstOpen K D k z t
  open-over k z t h = first-kept (cells_of D (suc k)) (coboundary K D k z) t
      (rising-filter (λ c. c.degree == suc k) D.cells like.rising)
      (subst (λ w. IsFirstNonzeroCell (filter has_coordinates (cells_of D (suc k))) w t) (like.same.maps k z)
      (subst (λ cs. IsFirstNonzeroCell cs (coboundary K C k z) t) (like.cells (suc k)) h))

  below-over : (k : ℕ) (u : List ℕ) → IsCochainBelow K C k u → IsCochainBelow K D k u
  below-over zero u h = h
  below-over (suc k) u h = cochain-over k u h

  below-same : (k : ℕ) (u : List ℕ) → coboundary_below K C k u ≡ coboundary_below K D k u
  below-same zero u = ap zeros (like.same.sizes 0)
  below-same (suc k) u = like.same.maps k u

  class-over : (k : ℕ) (z coords : List ℕ) (vectors : List (List ℕ)) (primitive : List ℕ)
      → IsClass K C k z coords vectors primitive → IsClass K D k z coords vectors primitive
  class-over k z coords vectors primitive h = record {
    cocycle = cocycle-over k z h.cocycle;
    basis = like.bases k vectors h.basis;
    one_each = h.one_each;
    cochain = below-over k primitive h.cochain;
    sum = h.sum ∙ ap₂ (λ n u. plus K (combination K n coords vectors) u) (like.same.sizes k) (below-same k primitive);
  }

  -- what is right for C is right for D
  pub right-over : (k : ℕ) (z : List ℕ) (reply : Answer) → IsRightClass K C k z reply → IsRightClass K D k z reply
  right-over k z replies.BadLength right = λ e. right (e ∙ sym (like.same.sizes k))
  right-over k z replies.BadEntry right = (right.0 ∙ like.same.sizes k, right.1)
  right-over k z (replies.NotCocycle j t) right = (right.0, cochain-over k z right.1, open-over k z t right.2)
  right-over k z (replies.Class j coords vectors primitive) right =
      (right.0, class-over k z coords vectors primitive right.1)
  right-over k z reply right = absurd right

-- ---- one right reply

-- a cocycle has no first cell at which its coboundary is not zero
closed-none : (K : Ops) (C : CellularComplex) (k : ℕ) (z : List ℕ) (t : ℕ) → IsCocycle K C k z → IsFirstOpen K C k z t
    → ⊥
closed-none K C k z t cocycle h = h.nonzero (zero-at (cells_of C (suc k)) (coboundary K C k z) t
    (subst (All (λ a. a ≡ 0)) (sym cocycle.closed) (zeros-all (coordinates C (suc k)))))

-- two right replies are the same but for what tells the class
pub one-class : (K : Ops) (C : CellularComplex) (k : ℕ) (z : List ℕ) (x y : Answer)
    → IsRightClass K C k z x → IsRightClass K C k z y
    → ((i j : ℕ) (a c : List ℕ) (b d : List (List ℕ)) (p q : List ℕ) → x ≡ replies.Class i a b p
    → y ≡ replies.Class j c d q → (a ≡ c) × (b ≡ d) × (p ≡ q))
    → x ≡ y
one-class K C k z replies.BadLength replies.BadLength a b told = refl
one-class K C k z replies.BadLength replies.BadEntry a b told = absurd (a b.0)
one-class K C k z replies.BadLength (replies.NotCocycle j t) a b told = absurd (a b.1.size)
one-class K C k z replies.BadLength (replies.Class j d vectors q) a b told = absurd (a b.1.cocycle.cochain.size)
one-class K C k z replies.BadLength y a b told = absurd b
one-class K C k z replies.BadEntry replies.BadLength a b told = absurd (b a.0)
one-class K C k z replies.BadEntry replies.BadEntry a b told = refl
one-class K C k z replies.BadEntry (replies.NotCocycle j t) a b told = absurd (a.1 b.1.scalars)
one-class K C k z replies.BadEntry (replies.Class j d vectors q) a b told = absurd (a.1 b.1.cocycle.cochain.scalars)
one-class K C k z replies.BadEntry y a b told = absurd b
one-class K C k z (replies.NotCocycle i s) replies.BadLength a b told = absurd (b a.1.size)
one-class K C k z (replies.NotCocycle i s) replies.BadEntry a b told = absurd (b.1 a.1.scalars)
one-class K C k z (replies.NotCocycle i s) (replies.NotCocycle j t) a b told =
    ap₂ replies.NotCocycle (a.0 ∙ sym b.0) (first-unique (cells_of C (suc k)) (coboundary K C k z) s t a.2 b.2)
one-class K C k z (replies.NotCocycle i s) (replies.Class j d vectors q) a b told =
    absurd (closed-none K C k z s b.1.cocycle a.2)
one-class K C k z (replies.NotCocycle i s) y a b told = absurd b
one-class K C k z (replies.Class i c vectors p) replies.BadLength a b told = absurd (b a.1.cocycle.cochain.size)
one-class K C k z (replies.Class i c vectors p) replies.BadEntry a b told = absurd (b.1 a.1.cocycle.cochain.scalars)
one-class K C k z (replies.Class i c vectors p) (replies.NotCocycle j t) a b told =
    absurd (closed-none K C k z t a.1.cocycle b.2)
one-class K C k z (replies.Class i c vectors p) (replies.Class j d others q) a b told =
    let same = told i j c d vectors others p q refl refl in
    λ n. replies.Class ((a.0 ∙ sym b.0) n) (same.0 n) (same.1 n) (same.2 n)
one-class K C k z (replies.Class i c vectors p) y a b told = absurd b
one-class K C k z x y a b told = absurd a
