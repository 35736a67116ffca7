-- The loops of an elimination, step by step.
use Rattle.std.proofs.Common.{Vec, ◌≡◌, ◌≢◌, ◌⊎◌, inl, inr, ℕ, zero, suc, ◌+◌, ◌<◌, ◌≤◌, List, [], ◌∷◌, ◌++◌, length}
use Rattle.std.proofs.Common.{take, drop, get_or, set, All, refl, sym, ap, ap₂, ◌∙◌, subst, subst₂, arith, add-one}
use Rattle.std.proofs.Common.{append_assoc, drop-cons}
use borrow.Author.Count.{below_more}
use Rattle.std.proofs.Math.Seq.{take-append_seam}
use Rattle.std.proofs.lemmas.Bool.{cases_lt}
use Rattle.std.proofs.lemmas.List.{length-map, length-append, length-take-le, get_or-map, get_or-set_other, get_or_push}
use Rattle.std.proofs.lemmas.List.{get_or_append_left, take-append-le, take_at, take_more, take-map, take_all, drop_all}
use Rattle.std.proofs.lemmas.List.{append-nil}
use Rattle.std.proofs.lemmas.List.Elements.{All-nil, All-push, All-head, All-tail, All-take, All-get_or}
use Rattle.dense_blocks.specs.Field.{Ops}
use Rattle.dense_blocks.specs.FieldLaws.{IsField}
use Rattle.dense_blocks.specs.Vectors.{IsVector, zeros, plus, multiple, dot, combination}
use Rattle.dense_blocks.specs.MatrixFacts.{negative, IsMatrix}
use Rattle.dense_blocks.specs.Elimination.{IsPivot, rows, pivot_multiple, pivot_remainder, remainder, parts, PullsBack}
use Rattle.dense_blocks.specs.Elimination.{Eliminates, ComesFrom}
use Rattle.dense_blocks.specs.Solutions.{lists, IsDependent, IsDependentCoordinate, IsLeading}
use Rattle.dense_blocks.specs.declared.solution.Pivot.{Pivot}
use Rattle.dense_blocks.proofs.ScalarLaws.{zero_add, neg_mul}
use Rattle.dense_blocks.proofs.Shapes.{Vector, Matrix, to_matrix, to_vector, from_vector, vector_of, vector-size}
use Rattle.dense_blocks.proofs.Shapes.{vector-scalars, row-vector}
use Rattle.dense_blocks.proofs.VectorLaws.{zeros-size, zeros-vector, zeros-dot, zeros-plus, plus-zeros, plus-vector}
use Rattle.dense_blocks.proofs.VectorLaws.{plus-assoc, plus-comm, plus-cross, plus-negative, multiple-vector}
use Rattle.dense_blocks.proofs.VectorLaws.{multiple-plus, multiple-neg, dot-plus, dot-multiple, combination-vector}
use Rattle.dense_blocks.proofs.VectorLaws.{combination-plus, combination-multiple, combination-zeros}
use Rattle.dense_blocks.proofs.Leading.{Given, remainder-combination, given-remainder, given-not_first}
use Rattle.dense_blocks.proofs.Reductions.{remainder-vector, remainder-push, remainder-parts, parts-vector, zeros-at}
use Rattle.dense_blocks.proofs.Reductions.{cleared-zeros, cleared-row, dot-set, set-vector, combination-take}
use Rattle.dense_blocks.proofs.Reductions.{combination-set, combination-last}

-- u and what was taken off so far, with i pivots used
pub record Reducing (K : Ops) (n : ℕ) (ps : List Pivot) (start : List ℕ) (i : ℕ) (u taken : List ℕ) : Type 0 where
  pub vector : IsVector K n u
  pub rest : remainder K (drop i ps) u ≡ remainder K ps start
  pub all_taken : taken ++ parts K (drop i ps) u ≡ parts K ps start

pub reducing-next : (K : Ops) (h : IsField K) (n : ℕ) (ps : List Pivot) (start : List ℕ) (i : ℕ) (u taken : List ℕ)
    (p : Pivot) (x : ℕ)
    → i < length ps → p ≡ get_or ps i p → IsPivot K n p → x ≡ pivot_multiple K p u → Reducing K n ps start i u taken
    → Reducing K n ps start (i + 1) (plus K u (multiple K (K.neg x) p.row.items)) (taken ++ x ∷ [])
unfolding remainder parts
reducing-next K h n ps start i u taken p x l is fit is_x now =
    let u' : List ℕ = plus K u (multiple K (K.neg x) p.row.items) in
    let next : pivot_remainder K p u ≡ u' = ap (λ t. plus K u (multiple K (K.neg t) p.row.items)) (sym is_x) in
    let cut : drop i ps ≡ p ∷ drop (i + 1) ps =
    drop-cons ps i p l ∙ ap₂ (λ a b. a ∷ drop b ps) (sym is) (sym (add-one i)) in
    record {
      vector = from_vector K n u'
          (plus-vector K h n u (multiple K (K.neg x) p.row.items) (to_vector K n u now.vector)
          (multiple-vector K h n (K.neg x) p.row.items (to_vector K n p.row.items fit.row)));
      rest = ap (remainder K (drop (i + 1) ps)) (sym next) ∙ ap (λ t. remainder K t u) (sym cut) ∙ now.rest;
      all_taken = append_assoc taken (x ∷ []) (parts K (drop (i + 1) ps) u')
          ∙ ap₂ (λ a b. taken ++ a ∷ parts K (drop (i + 1) ps) b) is_x (sym next)
          ∙ ap (λ t. taken ++ parts K t u) (sym cut) ∙ now.all_taken;
    }

pub reducing-rest : (K : Ops) (n : ℕ) (ps : List Pivot) (start : List ℕ) (i : ℕ) (u taken : List ℕ) → length ps ≤ i
    → Reducing K n ps start i u taken → u ≡ remainder K ps start
unfolding remainder
reducing-rest K n ps start i u taken l now = ap (λ t. remainder K t u) (sym (drop_all i ps l)) ∙ now.rest

pub reducing-parts : (K : Ops) (n : ℕ) (ps : List Pivot) (start : List ℕ) (i : ℕ) (u taken : List ℕ) → length ps ≤ i
    → Reducing K n ps start i u taken → taken ≡ parts K ps start
unfolding parts
reducing-parts K n ps start i u taken l now =
    sym (append-nil taken) ∙ ap (λ t. taken ++ parts K t u) (sym (drop_all i ps l)) ∙ now.all_taken

pub own_matrix : (K : Ops) (m n : ℕ) (A : List (List ℕ)) → IsMatrix K m n A → Matrix K (length A) n A
own_matrix K m n A h = subst (λ k. Matrix K k n A) (sym h.size) (to_matrix K m n A h)

-- where a pivot comes from, read from the list of all
pub come_from_at : (K : Ops) (n : ℕ) (vectors : List (List ℕ)) (count : ℕ) (ps : List Pivot) (i k : ℕ) (q : Pivot)
    → Eliminates K n vectors count ps
    → i < length ps → k ≡ i → q ≡ get_or ps i q → ComesFrom K vectors (take k ps) q
come_from_at K n vectors count ps i k q all l e is =
    subst₂ (λ j p. ComesFrom K vectors (take j ps) p) (sym e) (sym is) (all.come_from i q l)

-- the list at k
pub list_at : {Z : Type 0} (vs : List (Vec ℕ Z)) (k : ℕ) (v : Vec ℕ Z) → k < length vs → v ≡ get_or vs k v
    → v.items ≡ get_or (lists vs) k []
list_at vs k v l e = ap (λ w. w.items) e ∙ sym (get_or-map (λ w. w.items) vs k v [] l)

nil_is : (v : List ℕ) → length v ≡ 0 → v ≡ []
nil_is [] e = refl
nil_is (a ∷ v) e = absurd (omega arith)

pub front_all : {X : Type 0} (P : X → Type 0) (xs ys : List X) → All P (xs ++ ys) → All P xs
front_all P xs ys all = subst (All P) (take-append_seam xs ys) (All-take P (length xs) (xs ++ ys) all)

pub last_all : {X : Type 0} (P : X → Type 0) (xs : List X) (x : X) → All P (xs ++ x ∷ []) → P x
last_all P xs x all =
    subst P (get_or_push xs x x (length xs) refl)
    (All-get_or P (xs ++ x ∷ []) (length xs) x (omega (arith, length-append xs (x ∷ []))) all)

-- p at what the first i pivots leave of a vector, where all of them are to be used
pub record Pulling (K : Ops) (n : ℕ) (ps : List Pivot) (place k i : ℕ) (p : List ℕ) : Type 0 where
  pub functional : IsVector K n p
  pub gives : (u : List ℕ) → IsVector K n u → dot K p (remainder K (take i ps) u)
      ≡ K.mul k (get_or (remainder K ps u) place 0)
  pub elsewhere : (j : ℕ) → j ≢ place → ((a : ℕ) (d : Pivot) → a < length ps → (get_or ps a d).place ≢ j)
      → get_or p j 0 ≡ 0

-- what the rows were of the vectors, with the later rows already replaced
pub record Rebuilding (K : Ops) (n : ℕ) (vectors : List (List ℕ)) (ps : List Pivot) (target coefficients taken :
    List ℕ) : Type 0 where
  pub coefficients_are : IsVector K (length vectors) coefficients
  pub taken_are : All (λ a. a < K.order) taken
  pub short : length taken ≤ length ps
  pub gives : plus K (combination K n coefficients vectors) (combination K n taken (rows ps)) ≡ target
  pub elsewhere : (j : ℕ) → ((a : ℕ) (d : Pivot) → a < length ps → (get_or ps a d).source ≢ j) → get_or coefficients j 0
      ≡ 0

module _ (K : Ops) (h : IsField K) where
  -- k times the coordinate at a place
  dot-unit : (n place k : ℕ) (w : List ℕ) → place < n → k < K.order → Vector K n w → dot K (set (zeros n) place k) w
      ≡ K.mul k (get_or w place 0)
  dot-unit n place k w l low hw =
      ap (λ t. dot K (set (zeros n) place t) w) (sym (zero_add K h k low)
      ∙ ap (λ t. K.add t k) (sym (zeros-at K h n place)))
      ∙ dot-set K h (zeros n) w place k (omega (arith, zeros-size n)) (zeros-size n ∙ sym (vector-size K n w hw))
      ∙ ap (λ t. K.add t (K.mul k (get_or w place 0))) (zeros-dot K h n w)
      ∙ zero_add K h (K.mul k (get_or w place 0)) (h.mul_below k (get_or w place 0))

  pub pulling-start : (n : ℕ) (ps : List Pivot) (place k i : ℕ) (p : List ℕ) → All (IsPivot K n) ps → place < n → k
      < K.order → length ps ≡ i
      → p ≡ set (zeros n) place k → Pulling K n ps place k i p
  pulling-start n ps place k i p fit l low e is =
      subst (Pulling K n ps place k i) (sym is) (record {
        functional = from_vector K n (set (zeros n) place k)
            (set-vector K h n place k (zeros n) low (zeros-vector K h n));
        gives = λ u hu.
            ap (λ t. dot K (set (zeros n) place k) (remainder K t u)) (take_all i ps (omega arith))
            ∙ dot-unit n place k (remainder K ps u) l low (remainder-vector K h n ps u fit (to_vector K n u hu));
        elsewhere = λ j other none. get_or-set_other (zeros n) place j k 0 other ∙ zeros-at K h n j;
      })

  mul_turn : (a b c : ℕ) → K.mul (K.mul a b) c ≡ K.mul (K.mul c b) a
  mul_turn a b c = h.mul_comm (K.mul a b) c ∙ ap (K.mul c) (h.mul_comm a b) ∙ sym (h.mul_assoc c b a)

  -- a functional before one reduction, from the functional after it
  dot-cleared : (n : ℕ) (q : Pivot) (p w : List ℕ) (less : ℕ) → IsPivot K n q → Vector K n p → Vector K n w
      → less ≡ K.neg (K.mul (dot K p q.row.items) q.inverse)
      → dot K (set p q.place (K.add (get_or p q.place 0) less)) w ≡ dot K p (pivot_remainder K q w)
  dot-cleared n q p w less fit hp hw is =
      let row : List ℕ = q.row.items in
      let at : ℕ = get_or w q.place 0 in
      let size : length p ≡ n = vector-size K n p hp in
      dot-set K h p w q.place less (omega (arith, fit.place)) (size ∙ sym (vector-size K n w hw))
      ∙ ap (K.add (dot K p w))
      (ap (λ t. K.mul t at) is
      ∙ neg_mul K h (K.mul (dot K p row) q.inverse) at
      ∙ ap K.neg (mul_turn (dot K p row) q.inverse at)
      ∙ sym (neg_mul K h (pivot_multiple K q w) (dot K p row))
      ∙ sym (dot-multiple K h (K.neg (pivot_multiple K q w)) p row))
      ∙ sym (dot-plus K h n p w (multiple K (K.neg (pivot_multiple K q w)) row) hw
      (multiple-vector K h n (K.neg (pivot_multiple K q w)) row (to_vector K n row fit.row)))

  pub pulling-next : (n : ℕ) (ps : List Pivot) (place k i : ℕ) (p : List ℕ) (q : Pivot) (less : ℕ)
      → All (IsPivot K n) ps → i < length ps → q ≡ get_or ps i q → IsPivot K n q
      → less ≡ K.neg (K.mul (dot K p q.row.items) q.inverse) → less < K.order → Pulling K n ps place k (i + 1) p
      → Pulling K n ps place k i (set p q.place (K.add (get_or p q.place 0) less))
  pulling-next n ps place k i p q less all l is fit is_less low now = record {
    functional = from_vector K n (set p q.place (K.add (get_or p q.place 0) less))
        (set-vector K h n q.place (K.add (get_or p q.place 0) less) p (h.add_below (get_or p q.place 0) less)
        (to_vector K n p now.functional));
    gives = λ u hu.
        let w : List ℕ = remainder K (take i ps) u in
        dot-cleared n q p w less fit (to_vector K n p now.functional)
        (remainder-vector K h n (take i ps) u (All-take (IsPivot K n) i ps all) (to_vector K n u hu)) is_less
        ∙ ap (dot K p)
        (sym (remainder-push K h (take i ps) q u)
        ∙ ap (λ t. remainder K (take i ps ++ t ∷ []) u) is
        ∙ ap (λ t. remainder K t u) (sym (take_more ps i q l)))
        ∙ now.gives u hu;
    elsewhere = λ j other none.
        get_or-set_other p q.place j (K.add (get_or p q.place 0) less) 0
        (λ e. none i q l (ap (λ t. t.place) (sym is) ∙ sym e)) ∙ now.elsewhere j other none;
  }

  pub pulling-end : (n : ℕ) (ps : List Pivot) (place k i : ℕ) (p : List ℕ) → i ≡ 0 → Pulling K n ps place k i p
      → PullsBack K n ps place k p
  unfolding remainder
  pulling-end n ps place k i p e now = record {
    functional = now.functional;
    gives = λ u hu. ap (λ t. dot K p (remainder K (take t ps) u)) (sym e) ∙ now.gives u hu;
    elsewhere = now.elsewhere;
  }

  pub rows-matrix : (n : ℕ) (ps : List Pivot) → All (IsPivot K n) ps → Matrix K (length ps) n (rows ps)
  rows-matrix n [] fit = tt
  rows-matrix n (p ∷ ps) fit =
      let first : IsPivot K n p = All-head (IsPivot K n) p ps fit in
      (to_vector K n p.row.items first.row, rows-matrix n ps (All-tail (IsPivot K n) p ps fit))

  pub rebuilding-start : (n : ℕ) (vectors : List (List ℕ)) (ps : List Pivot) (coefficients taken : List ℕ)
      → Matrix K (length vectors) n vectors → All (IsPivot K n) ps → coefficients ≡ zeros (length vectors)
      → IsVector K (length ps) taken
      → Rebuilding K n vectors ps (combination K n taken (rows ps)) coefficients taken
  rebuilding-start n vectors ps coefficients taken hv fit is h_taken =
      subst (λ c. Rebuilding K n vectors ps (combination K n taken (rows ps)) c taken) (sym is) (record {
        coefficients_are = from_vector K (length vectors) (zeros (length vectors)) (zeros-vector K h (length vectors));
        taken_are = h_taken.scalars;
        short = omega (arith, h_taken.size);
        gives = ap (λ t. plus K t (combination K n taken (rows ps)))
            (combination-zeros K h (length vectors) (length vectors) n vectors hv)
            ∙ zeros-plus K h n (combination K n taken (rows ps))
            (combination-vector K h (length ps) n taken (rows ps) (rows-matrix n ps fit));
        elsewhere = λ j none. zeros-at K h (length vectors) j;
      })

  -- a pivot has one pivot_multiple for each pivot before it
  pub parts-are : (vectors : List (List ℕ)) (ps : List Pivot) (k : ℕ) (q : Pivot) → k < length ps
      → ComesFrom K vectors (take k ps) q → Vector K k q.parts.items
  parts-are vectors ps k q l from =
      let w : List ℕ = get_or vectors q.source [] in
      subst (Vector K k) (sym from.parts_are)
      (subst (λ t. Vector K t (parts K (take k ps) w)) (length-take-le k ps (omega arith))
      (parts-vector K h (take k ps) w))

  -- coefficients that are 0 but at the sources of pivots leave out the vectors that earlier ones give
  pub rebuilding-leads : (n : ℕ) (vectors : List (List ℕ)) (count : ℕ) (ps : List Pivot) (target coefficients taken :
      List ℕ) → Eliminates K n vectors count ps
      → Rebuilding K n vectors ps target coefficients taken → IsLeading K n vectors coefficients
  rebuilding-leads n vectors count ps target coefficients taken all now k l earlier =
      now.elsewhere k (λ a d low e. all.not_earlier a d low (subst (IsDependent K n vectors) (sym e) earlier))

  -- a vector is its row and its parts
  pub source-is : (n : ℕ) (vectors : List (List ℕ)) (ps : List Pivot) (k : ℕ) (q : Pivot)
      → Matrix K (length vectors) n vectors → All (IsPivot K n) ps
      → k < length ps → ComesFrom K vectors (take k ps) q
      → plus K q.row.items (combination K n q.parts.items (rows ps)) ≡ get_or vectors q.source []
  source-is n vectors ps k q hv fit l from =
      let w : List ℕ = get_or vectors q.source [] in
      let size : length q.parts.items ≡ k = vector-size K k q.parts.items (parts-are vectors ps k q l from) in
      ap (plus K q.row.items)
      (sym (combination-take K n k q.parts.items (rows ps) (omega arith))
      ∙ ap (combination K n q.parts.items) (take-map (λ (p : Pivot). p.row.items) k ps))
      ∙ ap₂ (λ a b. plus K a (combination K n b (rows (take k ps)))) from.row_is from.parts_are
      ∙ remainder-parts K h n (take k ps) w (All-take (IsPivot K n) k ps fit)
      (row-vector K (length vectors) n vectors q.source hv from.source)

  exchange : (n : ℕ) (C P R S : List ℕ) → Vector K n P → Vector K n R → Vector K n S
      → plus K (plus K C (plus K R S)) (plus K P (negative K S)) ≡ plus K C (plus K P R)
  exchange n C P R S hp hr hs =
      plus-assoc K h C (plus K R S) (plus K P (negative K S))
      ∙ ap (plus K C)
      (plus-cross K h R S P (negative K S)
      ∙ ap (plus K (plus K R P)) (plus-negative K h n S hs)
      ∙ plus-zeros K h n (plus K R P) (plus-vector K h n R P hr hp)
      ∙ plus-comm K h R P)

  pub rebuilding-next : (n : ℕ) (vectors : List (List ℕ)) (ps : List Pivot) (target coefficients shorter : List ℕ)
      (last : ℕ) (q : Pivot)
      → Matrix K (length vectors) n vectors → All (IsPivot K n) ps → length shorter < length ps
      → q ≡ get_or ps (length shorter) q
      → ComesFrom K vectors (take (length shorter) ps) q
      → Rebuilding K n vectors ps target coefficients (shorter ++ last ∷ [])
      → Rebuilding K n vectors ps target (set coefficients q.source (K.add (get_or coefficients q.source 0) last))
      (plus K shorter (multiple K (K.neg last) q.parts.items))
  rebuilding-next n vectors ps target coefficients shorter last q hv fit l is from now =
      let k : ℕ = length shorter in
      let m : ℕ = length vectors in
      let row : List ℕ = q.row.items in
      let c' : List ℕ = set coefficients q.source (K.add (get_or coefficients q.source 0) last) in
      let back : List ℕ = multiple K (K.neg last) q.parts.items in
      let C : List ℕ = combination K n coefficients vectors in
      let P : List ℕ = combination K n shorter (rows ps) in
      let G : List ℕ = combination K n q.parts.items (rows ps) in
      let R : List ℕ = multiple K last row in
      let S : List ℕ = multiple K last G in
      let all_rows : Matrix K (length ps) n (rows ps) = rows-matrix n ps fit in
      let row_is : get_or (rows ps) k [] ≡ row = get_or-map (λ (p : Pivot). p.row.items) ps k q [] l
      ∙ ap (λ (p : Pivot). p.row.items) (sym is) in
      let row_vector : Vector K n row = subst (Vector K n) row_is (row-vector K (length ps) n (rows ps) k all_rows l) in
      let shorter_vector : Vector K k shorter =
      vector_of K k shorter refl (front_all (λ a. a < K.order) shorter (last ∷ []) now.taken_are) in
      let parts_vector : Vector K k q.parts.items = parts-are vectors ps k q l from in
      let back_vector : Vector K k back = multiple-vector K h k (K.neg last) q.parts.items parts_vector in
      let sum_vector : Vector K k (plus K shorter back) = plus-vector K h k shorter back shorter_vector back_vector in
      let G_vector : Vector K n G = combination-vector K h (length ps) n q.parts.items (rows ps) all_rows in
      let size : length coefficients ≡ m = now.coefficients_are.size in
      let columns_part : combination K n c' vectors ≡ plus K C (plus K R S) =
      combination-set K h n coefficients vectors q.source last (omega (arith, from.source)) size
      ∙ ap (λ t. plus K C (multiple K last t)) (sym (source-is n vectors ps k q hv fit l from))
      ∙ ap (plus K C) (multiple-plus K h last row G) in
      let rows_part : combination K n (plus K shorter back) (rows ps) ≡ plus K P (negative K S) =
      combination-plus K h k n shorter back (rows ps) shorter_vector back_vector
      ∙ ap (plus K P) (combination-multiple K h n (K.neg last) q.parts.items (rows ps) ∙ multiple-neg K h last G) in
      let before : combination K n (shorter ++ last ∷ []) (rows ps) ≡ plus K P R =
      combination-last K h (length ps) n shorter last (rows ps)
      (omega (arith, length-map ps (λ (p : Pivot). p.row.items))) all_rows
      ∙ ap (λ t. plus K P (multiple K last t)) row_is in
      record {
        coefficients_are = from_vector K m c' (set-vector K h m q.source (K.add (get_or coefficients q.source 0) last)
            coefficients
            (h.add_below (get_or coefficients q.source 0) last) (to_vector K m coefficients now.coefficients_are));
        taken_are = vector-scalars K k (plus K shorter back) sum_vector;
        short = omega (arith, vector-size K k (plus K shorter back) sum_vector);
        gives = ap₂ (plus K) columns_part rows_part
            ∙ exchange n C P R S (combination-vector K h (length ps) n shorter (rows ps) all_rows)
            (multiple-vector K h n last row row_vector) (multiple-vector K h n last G G_vector)
            ∙ ap (plus K C) (sym before)
            ∙ now.gives;
        elsewhere = λ j none.
            get_or-set_other coefficients q.source j (K.add (get_or coefficients q.source 0) last) 0
            (λ e. none k q l (ap (λ t. t.source) (sym is) ∙ sym e)) ∙ now.elsewhere j none;
      }

  pub rebuilding-end : (n : ℕ) (vectors : List (List ℕ)) (ps : List Pivot) (target coefficients taken : List ℕ)
      → Matrix K (length vectors) n vectors
      → length taken ≡ 0 → Rebuilding K n vectors ps target coefficients taken → combination K n coefficients vectors
      ≡ target
  rebuilding-end n vectors ps target coefficients taken hv none now =
      sym (plus-zeros K h n (combination K n coefficients vectors)
      (combination-vector K h (length vectors) n coefficients vectors hv))
      ∙ ap (λ t. plus K (combination K n coefficients vectors) (combination K n t (rows ps))) (sym (nil_is taken none))
      ∙ now.gives

  -- one more vector, which the pivots reduce to zero
  pub eliminates-zero : (n : ℕ) (vectors : List (List ℕ)) (j : ℕ) (ps : List Pivot) → Eliminates K n vectors j ps
      → remainder K ps (get_or vectors j []) ≡ zeros n → Eliminates K n vectors (j + 1) ps
  eliminates-zero n vectors j ps all e = record {
    fit = all.fit;
    come_from = all.come_from;
    not_earlier = all.not_earlier;
    zero = below_more _ _ all.zero e;
  }

  -- a pivot does not come from a vector that earlier ones give
  source-not_earlier : (n : ℕ) (vectors : List (List ℕ)) (ps : List Pivot) (q : Pivot)
      → Matrix K (length vectors) n vectors → Eliminates K n vectors q.source ps
      → IsPivot K n q → ComesFrom K vectors ps q → IsDependent K n vectors q.source → ⊥
  source-not_earlier n vectors ps q hv all fit from earlier =
      let none : q.row.items ≡ zeros n =
      from.row_is ∙ ap (remainder K ps) (sym earlier.is)
      ∙ remainder-combination K h (length vectors) n q.source ps earlier.by vectors all.fit hv all.zero
      (omega (arith, from.source)) in
      fit.not_zero (ap (λ t. get_or t q.place 0) none ∙ zeros-at K h n q.place)

  -- what holds of each pivot holds of one more
  one-more : (P : List Pivot → Pivot → Type 0) (ps : List Pivot) (q : Pivot)
      → ((k : ℕ) (d : Pivot) → k < length ps → P (take k ps) (get_or ps k d)) → P ps q
      → (k : ℕ) (d : Pivot) → k < length (ps ++ q ∷ []) → P (take k (ps ++ q ∷ [])) (get_or (ps ++ q ∷ []) k d)
  one-more P ps q each last k d l = go (cases_lt k (length ps))
    where
      go : (k < length ps) ⊎ (length ps ≤ k) → P (take k (ps ++ q ∷ [])) (get_or (ps ++ q ∷ []) k d)
      go (inl low) = subst₂ P (sym (take-append-le k ps (q ∷ []) (omega arith)))
          (sym (get_or_append_left ps (q ∷ []) d k low)) (each k d low)
      go (inr high) =
          let same : length ps ≡ k = omega (arith, length-append ps (q ∷ [])) in
          subst₂ P (sym (take_at ps (q ∷ []) k same)) (sym (get_or_push ps q d k same)) last

  -- one more vector, which becomes a pivot
  pub eliminates-pivot : (n : ℕ) (vectors : List (List ℕ)) (ps : List Pivot) (q : Pivot)
      → Matrix K (length vectors) n vectors → Eliminates K n vectors q.source ps
      → IsPivot K n q → ComesFrom K vectors ps q → Eliminates K n vectors (q.source + 1) (ps ++ q ∷ [])
  eliminates-pivot n vectors ps q hv all fit from = record {
    fit = All-push (IsPivot K n) ps q all.fit fit;
    come_from = one-more (ComesFrom K vectors) ps q all.come_from from;
    not_earlier = one-more (λ before p. IsDependent K n vectors p.source → ⊥) ps q all.not_earlier
        (source-not_earlier n vectors ps q hv all fit from);
    zero = below_more _ _
        (λ j l. remainder-push K h ps q (get_or vectors j []) ∙ ap (pivot_remainder K q) (all.zero j l)
        ∙ cleared-zeros K h n q fit)
        (remainder-push K h ps q (get_or vectors q.source []) ∙ ap (pivot_remainder K q) (sym from.row_is)
        ∙ cleared-row K h n q fit);
  }

  -- coordinate i of each pivot's row is a combination of its earlier ones, if that is so for the vectors
  rows-given : (n i : ℕ) (by : List ℕ) (vectors : List (List ℕ)) (count : ℕ) (ps : List Pivot) → i < n
      → Matrix K (length vectors) n vectors → Eliminates K n vectors count ps
      → All (λ v. dot K by (take i v) ≡ get_or v i 0) vectors → (k : ℕ) → k ≤ length ps
      → All (λ p. Given K h by i p.row.items) (take k ps)
  rows-given n i by vectors count ps l hv all given zero low = All-nil (λ p. Given K h by i p.row.items)
  rows-given n i by vectors count [] l hv all given (suc k) low = absurd (omega arith)
  rows-given n i by vectors count (p ∷ ps) l hv all given (suc k) low =
      let all_ps : List Pivot = p ∷ ps in
      let q : Pivot = get_or all_ps k p in
      let before : All (λ p. Given K h by i p.row.items) (take k all_ps) = rows-given n i by vectors count all_ps l hv
      all given k (omega arith) in
      let from : ComesFrom K vectors (take k all_ps) q = all.come_from k p (omega arith) in
      let w : List ℕ = get_or vectors q.source [] in
      let last : Given K h by i q.row.items =
      subst (Given K h by i) (sym from.row_is)
      (given-remainder K h n i by (take k all_ps) w l (All-take (IsPivot K n) k all_ps all.fit) before
      (row-vector K (length vectors) n vectors q.source hv from.source)
      (record { is = All-get_or (λ v. dot K by (take i v) ≡ get_or v i 0) vectors q.source [] from.source given })) in
      subst (All (λ p. Given K h by i p.row.items)) (sym (take_more all_ps k p (omega arith))
      ∙ ap (λ t. take t all_ps) (add-one k))
      (All-push (λ p. Given K h by i p.row.items) (take k all_ps) q before last)

  -- a functional that is pulled back leaves out coordinates that earlier ones give
  pub pulls_back-leading : (n : ℕ) (columns : List (List ℕ)) (count : ℕ) (ps : List Pivot) (v p : List ℕ)
      (place k i : ℕ) → Matrix K (length columns) n columns → Vector K n v
      → Eliminates K n columns count ps → take place (remainder K ps v) ≡ zeros place
      → get_or (remainder K ps v) place 0 ≢ 0 → PullsBack K n ps place k p
      → i < n → IsDependentCoordinate K columns v i → get_or p i 0 ≡ 0
  pulls_back-leading n columns count ps v p place k i hc hv all first not_zero pulls l earlier =
      let rows_given : All (λ q. Given K h earlier.by i q.row.items) ps =
      subst (All (λ q. Given K h earlier.by i q.row.items)) (take_all (length ps) ps (omega arith))
      (rows-given n i earlier.by columns count ps l hc all earlier.of_columns (length ps) (omega arith)) in
      let rest_given : Given K h earlier.by i (remainder K ps v) =
      given-remainder K h n i earlier.by ps v l all.fit rows_given hv (record { is = earlier.of_v }) in
      pulls.elsewhere i
      (λ e. given-not_first K h i place earlier.by (remainder K ps v) first not_zero rest_given (sym e))
      (λ j d low.
      let q : Pivot = get_or ps j d in
      let fit : IsPivot K n q = All-get_or (IsPivot K n) ps j d low all.fit in
      given-not_first K h i q.place earlier.by q.row.items fit.first fit.not_zero
      (All-get_or (λ q. Given K h earlier.by i q.row.items) ps j d low rows_given))
