-- How many faces a complex has at most.
use Rattle.std.proofs.Common.{◌≡◌, ℕ, ◌+◌, ◌*◌, ◌<◌, ◌≤◌, false, nat_eq, eqb, List, [], ◌∷◌, length, map, get_or, All}
use Rattle.std.proofs.Common.{AllPairs, sym, ap₂, ◌∙◌, arith}
use Rattle.std.specs.List.{IsDistinct}
use Rattle.std.proofs.lemmas.Bool.{eq-eqb, ne_eqb, and_from, true≢false}
use Rattle.std.proofs.lemmas.List.{get_or-map, length-map}
use Rattle.std.proofs.lemmas.List.Elements.{All-contains, All-map, All-weaker, All-get_or}
use Rattle.std.proofs.lemmas.Map.Keys.{IsDistinct-from_apart}
use Rattle.std.proofs.lemmas.Map.Steps.{length-le_from_distinct_below}
use Rattle.std.proofs.lemmas.Map.Views.{Contains-from_any, exact_unsigned_eq}
use Rattle.cell_complex.specs.declared.face.Face.{Face}
use Rattle.cell_complex.specs.Complexes.{CellComplex}
use Rattle.cell_complex.specs.Invariants.{IsComplex, AreApart, JoinsCells}

-- the pair of cells of a face, as one number
abbrev code : Face → ℕ
code f = f.s * 4096 + f.t

codes-differ : (f g : Face) → f.t < 4096 → g.t < 4096 → AreApart f g → eqb (code f) (code g) ≡ false
codes-differ f g p q h = ne_eqb (code f) (code g) (λ e.
    let s : f.s ≡ g.s = omega arith in
    let t : f.t ≡ g.t = omega arith in
    true≢false (sym (and_from (nat_eq f.s g.s) (nat_eq f.t g.t) (eq-eqb f.s g.s s) (eq-eqb f.t g.t t)) ∙ h))

codes-distinct : (dims : List ℕ) (fs : List Face) → length dims ≤ 4096 → All (JoinsCells dims) fs → AllPairs AreApart fs
    → IsDistinct eqb (map code fs)
codes-distinct dims [] few fit apart = IsDistinct-from_apart eqb [] (λ i j d l m. absurd (omega arith))
codes-distinct dims (f ∷ fs) few fit apart = IsDistinct-from_apart eqb (map code (f ∷ fs)) (λ i j d l m.
    let all : List Face = f ∷ fs in
    let within : j < length all = omega (arith, length-map all code) in
    let left : JoinsCells dims (get_or all i f) = All-get_or (JoinsCells dims) all i f (omega arith) fit in
    let right : JoinsCells dims (get_or all j f) = All-get_or (JoinsCells dims) all j f within fit in
    ap₂ eqb (get_or-map code all i f d (omega arith)) (get_or-map code all j f d within)
    ∙ codes-differ (get_or all i f) (get_or all j f) (omega arith) (omega arith) (apart i j f l within))

-- no more faces than pairs of cells
pub length-faces : (c : CellComplex) → IsComplex c → length c.faces ≤ 4096 * 4096
length-faces c h =
    let below : All (λ n. n < 4096 * 4096) (map code c.faces) =
    All-map (λ n. n < 4096 * 4096) code c.faces
    (All-weaker (JoinsCells c.dims) (λ f. code f < 4096 * 4096) (λ f fit. let few : length c.dims ≤ 4096 =
    h.small.few in omega arith) c.faces h.fit) in
    let few : length (map code c.faces) ≤ 4096 * 4096 = length-le_from_distinct_below (map code c.faces) (4096 * 4096)
    (codes-distinct c.dims c.faces h.small.few h.fit h.apart)
    (λ q there. All-contains (λ n. n < 4096 * 4096) (map code c.faces) q below
    (Contains-from_any exact_unsigned_eq q (map code c.faces) there)) in
    omega (arith, length-map c.faces code)
