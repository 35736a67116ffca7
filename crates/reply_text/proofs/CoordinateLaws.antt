-- How many coordinates are of each degree, one cell after another; 4,096 at most.
use Rattle.std.proofs.Common.{◌≡◌, ◌≢◌, ℕ, ◌+◌, ◌<◌, min, List, [], ◌∷◌, ◌++◌, length, get_or, set, replicate, cond, eqb}
use Rattle.std.proofs.Common.{zero-add, refl, sym, ap, ◌∙◌, subst, arith, inl, inr}
use Rattle.std.proofs.lemmas.Bool.{cases_eq, eq-eqb, ne_eqb}
use Rattle.std.proofs.lemmas.List.{get_or-set_same, get_or-set_other, length-set, get_or-replicate, length-replicate}
use Rattle.std.proofs.lemmas.List.Sums.{sum_by-append}
use Rattle.reply_text.specs.declared.coordinates.Coordinates.{Coordinates}
use Rattle.reply_text.specs.JoinedMatrices.{degree_size, coordinates_after}
use Rattle.reply_text.specs.Parts.{capped, with_cell}

-- so many coordinates of each degree these cells have together
pub record AreSizes (cells : List (ℕ × ℕ × ℕ)) (sizes : List ℕ) : Type 0 where
  pub count : length sizes ≡ 256
  pub each : (k : ℕ) → k < 256 → get_or sizes k 0 ≡ min (degree_size k cells) 4096

-- before the first cell
pub sizes-none : AreSizes [] (replicate 256 0)
sizes-none = record {
  count = length-replicate {A = ℕ} 256 0;
  each = λ k l. get_or-replicate {A = ℕ} 256 k 0 0 l;
}

degree-more : (k : ℕ) (cells : List (ℕ × ℕ × ℕ)) (c : ℕ × ℕ × ℕ) → degree_size k (cells ++ c ∷ [])
    ≡ degree_size k cells + cond (eqb c.1 k) c.2 0
degree-more k cells c =
    sum_by-append (λ (d : ℕ × ℕ × ℕ). cond (eqb d.1 k) d.2 0) cells (c ∷ [])
    ∙ ap (λ n. degree_size k cells + n) (zero-add (cond (eqb c.1 k) c.2 0))

-- one cell more
sizes-more : (cells : List (ℕ × ℕ × ℕ)) (sizes : List ℕ) (c : ℕ × ℕ × ℕ) → AreSizes cells sizes
    → AreSizes (cells ++ c ∷ []) (with_cell sizes c)
sizes-more cells sizes c h = record {
  count = length-set sizes c.1 after ∙ h.count;
  each = λ k l. elim (cases_eq k c.1) [
    | inl e ↦
        subst (λ j. get_or (set sizes c.1 after) j 0 ≡ min (degree_size j (cells ++ c ∷ [])) 4096) (sym e)
        (here (subst (λ j. j < 256) e l))
    | inr n ↦ get_or-set_other sizes c.1 k after 0 n ∙ elsewhere k n (h.each k l)
  ];
}
  where
    after : ℕ
    after = min (get_or sizes c.1 0 + c.2) 4096

    here : c.1 < 256 → get_or (set sizes c.1 after) c.1 0 ≡ min (degree_size c.1 (cells ++ c ∷ [])) 4096
    here l =
        let one : cond (eqb c.1 c.1) c.2 0 ≡ c.2 = ap (λ b. cond b c.2 0) (eq-eqb c.1 c.1 refl) in
        get_or-set_same sizes c.1 after 0 (omega (arith, h.count, l))
        ∙ omega (arith, h.each c.1 l, degree-more c.1 cells c, one)

    elsewhere : (k : ℕ) → k ≢ c.1 → get_or sizes k 0 ≡ min (degree_size k cells) 4096
        → get_or sizes k 0 ≡ min (degree_size k (cells ++ c ∷ [])) 4096
    elsewhere k n e =
        let none : cond (eqb c.1 k) c.2 0 ≡ 0 = ap (λ b. cond b c.2 0) (ne_eqb c.1 k (λ same. n (sym same))) in
        omega (arith, e, degree-more k cells c, none)

pub sizes-next : (cells next : List (ℕ × ℕ × ℕ)) (sizes new : List ℕ) (c : ℕ × ℕ × ℕ) → AreSizes cells sizes
    → new ≡ with_cell sizes c → next ≡ cells ++ c ∷ [] → AreSizes next new
sizes-next cells next sizes new c h e n =
    subst (AreSizes next) (sym e)
    (subst (λ cs. AreSizes cs (with_cell sizes c)) (sym n) (sizes-more cells sizes c h))

-- the coordinates of the cell that comes next
pub next-is : (cells : List (ℕ × ℕ × ℕ)) (sizes : List ℕ) (c : ℕ × ℕ × ℕ) (x : Coordinates) → AreSizes cells sizes
    → c.1 < 256 → x ≡ record { cell = c.0; degree = c.1; first = get_or sizes c.1 0; size = c.2 }
    → x ≡ capped (coordinates_after cells c)
next-is cells sizes c x h l e =
    e ∙ ap (λ (n : ℕ). record { cell = c.0; degree = c.1; first = n; size = c.2 }) (h.each c.1 l)
