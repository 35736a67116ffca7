-- Live cells of what removals leave.
use Rattle.std.proofs.Common.{◌≡◌, ◌≤◌, ◌<◌, ℕ, ◌+◌, Bool, true, false, cond, not, eqb, List, [], ◌∷◌, length, get_or, take}
use Rattle.std.proofs.Common.{ap, sym, ◌∙◌, arith}
use Rattle.std.proofs.lemmas.List.Elements.{All-filter, All-get_or}
use Rattle.dense_blocks.specs.Field.{Ops}
use Rattle.rising_lists.specs.Rising.{has}
use Rattle.rising_lists.proofs.Keyed.{place_of}
use Rattle.cochain_vec.specs.Complexes.{total_size}
use Rattle.block_complexes.specs.BlockComplexes.{BlockComplex, cells, degree_of}
use Rattle.block_complexes.specs.Cochains.{of_degree, cell_of}
use Rattle.block_complexes.proofs.LiveLaws.{cell-at, length-cells, of_cell-at}
use Rattle.block_complexes.proofs.DegreeLaws.{value-within}
use Rattle.block_complexes.proofs.WithoutLaws.{without, still-live, rising-without, total-without}
use Rattle.block_sparse.specs.StoredBlocks.{AreLive}
use Rattle.removals.proofs.CornerLaws.{without-twice}
use Rattle.equivalence_laws.specs.RemovalMaps.{Removal}
use Rattle.equivalence_laws.specs.Composites.{AreRemovals, rest_of}

live-without : (c : ℕ) (live : List (ℕ × ℕ × ℕ)) → AreLive live → AreLive (without c live)
live-without c live h = record {
  rising = rising-without c live h.rising;
  degrees = All-filter (λ l. not (eqb l.0 c)) (λ l. l.1 ≤ 15) live h.degrees;
  sizes = All-filter (λ l. not (eqb l.0 c)) (λ l. 1 ≤ l.2) live h.sizes;
  total = omega (arith, total-without c live, h.total);
}

pub live-without-both : (x y : ℕ) (live : List (ℕ × ℕ × ℕ)) → AreLive live → AreLive (without y (without x live))
live-without-both x y live h = live-without y (without x live) (live-without x live h)

pub still-live-both : (x y : ℕ) (live : List (ℕ × ℕ × ℕ)) (q : ℕ) → has q (cells (without y (without x live))) ≡ true
    → has q (cells live) ≡ true
still-live-both x y live q h = still-live x live q (still-live y (without x live) q h)

coordinates-without : (k c : ℕ) (live : List (ℕ × ℕ × ℕ))
    → total_size (of_degree k (without c live)) ≤ total_size (of_degree k live)
coordinates-without k c [] = omega arith
coordinates-without k c (l ∷ ls) = go (eqb l.0 c) (coordinates-without k c ls)
  where
    both : (d : Bool) → total_size (of_degree k (without c ls)) ≤ total_size (of_degree k ls)
        → total_size (cond d (cell_of l ∷ of_degree k (without c ls)) (of_degree k (without c ls)))
        ≤ total_size (cond d (cell_of l ∷ of_degree k ls) (of_degree k ls))
    both true h = omega arith
    both false h = h

    one : (d : Bool) → total_size (of_degree k (without c ls)) ≤ total_size (of_degree k ls)
        → total_size (of_degree k (without c ls)) ≤ total_size (cond d (cell_of l ∷ of_degree k ls) (of_degree k ls))
    one true h = omega arith
    one false h = h

    go : (b : Bool) → total_size (of_degree k (without c ls)) ≤ total_size (of_degree k ls)
        → total_size (of_degree k (cond (not b) (l ∷ without c ls) (without c ls)))
        ≤ total_size (of_degree k (l ∷ ls))
    go true h = one (eqb l.1 k) h
    go false h = both (eqb l.1 k) h

-- removals leave no more coordinates
pub rest-coordinates : (K : Ops) (v : BlockComplex) (rs : List Removal) (k : ℕ) → AreRemovals K v rs
    → total_size (of_degree k (rest_of v rs).live) ≤ total_size (of_degree k v.live)
rest-coordinates K v [] k h = omega arith
rest-coordinates K v (r ∷ rs) k h =
    let e : total_size (of_degree k r.rest.live) ≡ total_size (of_degree k (without r.y (without r.x v.live))) =
    ap (λ l. total_size (of_degree k l)) (h.0.live ∙ sym (without-twice r.x r.y v.live)) in
    omega (
      arith,
      e,
      coordinates-without k r.y (without r.x v.live),
      coordinates-without k r.x v.live,
      rest-coordinates K r.rest rs k h.1,
    )

-- the degree of a live cell, and that it has coordinates there
pub degree-within : (live : List (ℕ × ℕ × ℕ)) (c : ℕ) → AreLive live → has c (cells live) ≡ true
    → (degree_of live c ≤ 15) × (1 ≤ total_size (of_degree (degree_of live c) live))
degree-within live c are h =
    let p = place_of (cells live) c h in
    let l : p.at < length live = omega (arith, p.inside, length-cells live) in
    let degree : degree_of live c ≡ (get_or live p.at (0, 0, 0)).1 =
    of_cell-at (λ l. l.1) live p.at c are.rising l (sym (cell-at live p.at l) ∙ p.is) in
    let within : total_size (of_degree (degree_of live c) (take p.at live)) + (get_or live p.at (0, 0, 0)).2
    ≤ total_size (of_degree (degree_of live c) live) = value-within (degree_of live c) live p.at l (sym degree) in (
      omega (arith, degree, All-get_or (λ l. l.1 ≤ 15) live p.at (0, 0, 0) l are.degrees),
      omega (arith, within, All-get_or (λ l. 1 ≤ l.2) live p.at (0, 0, 0) l are.sizes),
    )
