-- The values of cochains at cells, and cochains joined from values.
use Rattle.std.specs.List.{flat_map}
use Rattle.std.proofs.Common.{◌≡◌, ℕ, ◌<◌, Bool, true, false, cond, eqb, refl, sym, ap, ap₂, ◌∙◌, subst, arith, List}
use Rattle.std.proofs.Common.{◌∷◌, ◌++◌, length, map, take, drop, get_or, All, take-append-drop, []}
use Rattle.std.proofs.Math.Seq.{take-append_seam, drop-append_seam}
use Rattle.std.proofs.lemmas.Bool.{eq-eqb, ne_eqb, eqb-true}
use Rattle.std.proofs.lemmas.List.Elements.{All-map, All-from_get_or, All-tail, All-head}
use Rattle.dense_blocks.specs.Field.{Ops}
use Rattle.dense_blocks.proofs.Shapes.{Vector, vector-size, vector-nil}
use Rattle.cochain_vec.specs.declared.cell.Cell.{Cell}
use Rattle.cochain_vec.specs.Complexes.{total_size, coordinates, value_at}
use Rattle.cochain_vec.proofs.CoboundaryLaws.{size_at, drop-vector, value-vector, joined-same}
use Rattle.rising_lists.specs.Rising.{IsRising, has}
use Rattle.rising_lists.proofs.Keyed.{rising_tail, rising_head}
use Rattle.block_complexes.specs.BlockComplexes.{BlockComplex, cells, degree_of, size_of}
use Rattle.block_complexes.specs.Cochains.{complex_of, cell_of, of_degree}
use Rattle.block_complexes.proofs.LiveLaws.{cell-at, length-cells}
use Rattle.block_complexes.proofs.ComplexLaws.{of_degree-are, size-of_degree}
use Rattle.equivalence_laws.specs.RemovalMaps.{cochain_value}
use Rattle.cochain_vec.specs.Stalkless as stalkless
use Rattle.cochain_vec.proofs.StalklessLaws as stalkless_laws

-- the value at a cell of joined parts is the part
value-there : (K : Ops) (f : Cell → List ℕ) (cs : List Cell) (c : ℕ) (u : List ℕ)
    → All (λ (t : Cell). Vector K t.size (f t)) cs
    → All (λ (t : Cell). t.cell ≡ c → f t ≡ u) cs → Vector K (size_at cs c) u → value_at cs (flat_map f cs) c ≡ u
unfolding size_at
value-there K f [] c u h e hu = sym (vector-nil K u hu)
value-there K f (t ∷ ts) c u h e hu =
    go (eqb t.cell c) (eqb-true t.cell c) (vector-size K t.size (f t)
    (All-head (λ (t : Cell). Vector K t.size (f t)) t ts h)) hu
    (value-there K f ts c u (All-tail (λ (t : Cell). Vector K t.size (f t)) t ts h)
    (All-tail (λ (t : Cell). t.cell ≡ c → f t ≡ u) t ts e))
  where
    later : List ℕ
    later = flat_map f ts

    go : (b : Bool) → (b ≡ true → t.cell ≡ c) → length (f t) ≡ t.size → Vector K (cond b t.size (size_at ts c)) u
        → (Vector K (size_at ts c) u → value_at ts later c ≡ u)
        → cond b (take t.size (f t ++ later)) (value_at ts (drop t.size (f t ++ later)) c) ≡ u
    go true g l hu r =
        ap (λ n. take n (f t ++ later)) (sym l) ∙ take-append_seam (f t) later
        ∙ All-head (λ (t : Cell). t.cell ≡ c → f t ≡ u) t ts e (g refl)
    go false g l hu r =
        ap (λ n. value_at ts (drop n (f t ++ later)) c) (sym l)
        ∙ ap (λ v. value_at ts v c) (drop-append_seam (f t) later) ∙ r hu

-- a cochain is joined from its values
values-joined : (K : Ops) (cs : List Cell) (z : List ℕ) → stalkless.HasRisingCells cs → Vector K (total_size cs) z → z
    ≡ flat_map (λ (t : Cell). value_at cs z t.cell) cs
values-joined K [] z r h = vector-nil K z h
values-joined K (c ∷ cs) z r h =
    sym (take-append-drop c.size z)
    ∙ ap₂ ◌++◌ (sym (ap (λ b. cond b (take c.size z) (value_at cs (drop c.size z) c.cell)) (eq-eqb c.cell c.cell refl)))
    (values-joined K cs (drop c.size z) r.1 (drop-vector K c.size (total_size cs) z h)
    ∙ joined-same (λ (t : Cell). value_at cs (drop c.size z) t.cell) (λ (t : Cell). value_at (c ∷ cs) z t.cell) cs
    (λ i d l. let t = get_or cs i d in
    sym (ap (λ b. cond b (take c.size z) (value_at cs (drop c.size z) t.cell))
    (ne_eqb c.cell t.cell (λ e. let less = r.0 i d l in absurd (omega arith))))))

pub rising-cells : (live : List (ℕ × ℕ × ℕ)) → IsRising (cells live) → stalkless.HasRisingCells (map cell_of live)
rising-cells [] r = tt
rising-cells (l ∷ ls) r = (
  All-map (λ (later : Cell). l.0 < later.cell) cell_of ls
      (All-from_get_or (λ (m : ℕ × ℕ × ℕ). l.0 < m.0) ls (0, 0, 0)
      (λ i inside. omega (
        arith,
        rising_head l.0 (cells ls) r i (omega (arith, length-cells ls)),
        cell-at ls i inside,
      ))),
  rising-cells ls (rising_tail l.0 (cells ls) r),
)

module _ (v : BlockComplex) (rises : IsRising (cells v.live)) (k : ℕ) where
  -- a fact of each cell of degree k
  pub each-of_degree : (P : Cell → Type 0) → ((t : Cell) → has t.cell (cells v.live) ≡ true → degree_of v.live t.cell
      ≡ k → size_of v.live t.cell ≡ t.size → P t)
      → All P (of_degree k v.live)
  each-of_degree P f i d l = let is = of_degree-are v.live rises k i d l in
      f (get_or (of_degree k v.live) i d) is.is_live is.degree is.size

  module _ (K : Ops) where
    pub cochain-joined : (z : List ℕ) → Vector K (coordinates (complex_of v) k) z → z
        ≡ flat_map (λ (t : Cell). cochain_value v k z t.cell) (of_degree k v.live)
    cochain-joined z h =
        values-joined K (of_degree k v.live) z (stalkless_laws.rising-filter (λ (c : Cell). eqb c.degree k)
        (map cell_of v.live) (rising-cells v.live rises)) h

    pub value-size : (z : List ℕ) (c : ℕ) → Vector K (coordinates (complex_of v) k) z → has c (cells v.live) ≡ true
        → degree_of v.live c ≡ k
        → Vector K (size_of v.live c) (cochain_value v k z c)
    value-size z c h l e =
        subst (λ n. Vector K n (cochain_value v k z c)) (size-of_degree v.live k c l e)
        (value-vector K (of_degree k v.live) z c h)

    pub value-part : (f : Cell → List ℕ) (c : ℕ) (u : List ℕ)
        → All (λ (t : Cell). Vector K t.size (f t)) (of_degree k v.live)
        → has c (cells v.live) ≡ true → degree_of v.live c ≡ k → Vector K (size_of v.live c) u
        → ((t : Cell) → t.cell ≡ c → size_of v.live t.cell ≡ t.size → f t ≡ u)
        → cochain_value v k (flat_map f (of_degree k v.live)) c ≡ u
    value-part f c u h l e hu same =
        value-there K f (of_degree k v.live) c u h (each-of_degree (λ (t : Cell). t.cell ≡ c → f t ≡ u)
        (λ t live degree size is. same t is size))
        (subst (λ n. Vector K n u) (sym (size-of_degree v.live k c l e)) hu)
