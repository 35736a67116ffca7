-- There is one verdict on an edit.
use Rattle.std.proofs.Common.{◌≡◌, ℕ, ◌*◌, ◌≤◌, ◌<◌, Bool, true, false, ◌⊎◌, ⊎_elim, inl, inr, nat_eq, nat_lt, ◌||◌}
use Rattle.std.proofs.Common.{◌&&◌, List, [], ◌∷◌, length, map, sum, Option, None, Some, Result, Ok, Err, OnOk, IsErrOf}
use Rattle.std.proofs.Common.{MatchResult, MatchBool, refl, sym, ap, ap₂, ◌∙◌, subst}
use Rattle.std.proofs.Math.Bridge.{le_prop}
use Rattle.std.proofs.Math.Nat.{ℕ_set}
use Rattle.std.proofs.lemmas.Bool.{cases_order, lt-ltb, eq-eqb}
use Rattle.dense_blocks.specs.Field.{Ops}
use Rattle.dense_blocks.specs.declared.block.Block.{Block}
use Rattle.cell_complex.specs.Complexes.{CellComplex}
use Rattle.square_check.specs.Searches.{IsFirstFailure, is_before}
use Rattle.square_check.specs.Squares.{Commutes}
use Rattle.sheaf_data.specs.Sheaves.{SheafData}
use Rattle.sheaf_words.specs.declared.edit.Edit.{Edit}
use Rattle.sheaf_words.specs.declared.edit.Cause.{Cause}
use Rattle.sheaf_words.specs.declared.edit.Cause.TheVariants.{TotalLimit}
use Rattle.sheaf_words.specs.declared.edit.Verdict.{Verdict}
use Rattle.sheaf_words.specs.declared.edit.Verdict.TheVariants.{Accepted, Refused}
use Rattle.edit_versions.specs.declared.fault.EditFault.{EditFault}
use Rattle.edit_versions.specs.declared.fault.EditFault.TheVariants.{Refused as refused, NoMemory}
use Rattle.edit_versions.specs.Edits.{SheafLists, sheaf_lists, sets_made}
use Rattle.dense_blocks.specs.Blocks.{WrittenMatrix, written_matrix}
use Rattle.edit_versions.specs.Verdicts.{IsSquareVerdict, IsVerdict}
use Rattle.edit_versions.specs.ListVerdicts.{verdict_on_square, IsListVerdict}
use Rattle.edit_versions.specs.Faults.{Tells}

-- a block is known by its shape and its entries
pub written-injective : (a b : Block) → written_matrix a ≡ written_matrix b → a ≡ b
written-injective a b e = by_rows b.rows (ap (λ m. m.rows) e) b.rows_fit b.full
  where
    by_proofs : (cols_fit : a.cols ≤ 4096) (rows_fit : a.rows ≤ 4096) (full : length a.entries ≡ a.rows * a.cols)
        → a ≡ record {
          rows = a.rows;
          cols = a.cols;
          entries = a.entries;
          rows_fit = rows_fit;
          cols_fit = cols_fit;
          full = full;
        }
    by_proofs cols_fit rows_fit full =
        ap₂ (λ r k. record {
          rows = a.rows;
          cols = a.cols;
          entries = a.entries;
          rows_fit = r;
          cols_fit = k;
          full =
              a.full;
        })
        (le_prop a.rows_fit rows_fit) (le_prop a.cols_fit cols_fit)
        ∙ ap (λ f. record {
          rows = a.rows;
          cols = a.cols;
          entries = a.entries;
          rows_fit = rows_fit;
          cols_fit = cols_fit;
          full = f;
        })
        (ℕ_set (length a.entries) (a.rows * a.cols) a.full full)

    by_entries : (xs : List ℕ) → a.entries ≡ xs → (cols_fit : a.cols ≤ 4096) (rows_fit : a.rows ≤ 4096)
        (full : length xs ≡ a.rows * a.cols)
        → a ≡ record {
          rows = a.rows;
          cols = a.cols;
          entries = xs;
          rows_fit = rows_fit;
          cols_fit = cols_fit;
          full =
              full;
        }
    by_entries xs h =
        let P : List ℕ → Type 0 = λ xs. (cols_fit : a.cols ≤ 4096) (rows_fit : a.rows ≤ 4096)
        (full : length xs ≡ a.rows * a.cols)
        → a ≡ record {
          rows = a.rows;
          cols = a.cols;
          entries = xs;
          rows_fit = rows_fit;
          cols_fit = cols_fit;
          full =
              full;
        } in
        subst P h by_proofs

    by_cols : (n : ℕ) → a.cols ≡ n → (cols_fit : n ≤ 4096) (rows_fit : a.rows ≤ 4096)
        (full : length b.entries ≡ a.rows * n)
        → a ≡ record {
          rows = a.rows;
          cols = n;
          entries = b.entries;
          rows_fit = rows_fit;
          cols_fit = cols_fit;
          full =
              full;
        }
    by_cols n h =
        let P : ℕ → Type 0 = λ n. (cols_fit : n ≤ 4096) (rows_fit : a.rows ≤ 4096)
        (full : length b.entries ≡ a.rows * n)
        → a ≡ record {
          rows = a.rows;
          cols = n;
          entries = b.entries;
          rows_fit = rows_fit;
          cols_fit = cols_fit;
          full =
              full;
        } in
        subst P h (by_entries b.entries (ap (λ m. m.entries) e))

    by_rows : (m : ℕ) → a.rows ≡ m → (rows_fit : m ≤ 4096) (full : length b.entries ≡ m * b.cols)
        → a ≡ record {
          rows = m;
          cols = b.cols;
          entries = b.entries;
          rows_fit = rows_fit;
          cols_fit = b.cols_fit;
          full =
              full;
        }
    by_rows m h =
        let P : ℕ → Type 0 = λ m. (rows_fit : m ≤ 4096) (full : length b.entries ≡ m * b.cols)
        → a ≡ record {
          rows = m;
          cols = b.cols;
          entries = b.entries;
          rows_fit = rows_fit;
          cols_fit = b.cols_fit;
          full =
              full;
        } in
        subst P h (by_cols b.cols (ap (λ m. m.cols) e) b.cols_fit)

pub all-written-injective : (ds bs : List Block) → map written_matrix ds ≡ map written_matrix bs → ds ≡ bs
all-written-injective [] [] e = refl
all-written-injective [] (b ∷ bs) e = cc
all-written-injective (a ∷ ds) [] e = cc
all-written-injective (a ∷ ds) (b ∷ bs) e =
    ap₂ (λ x xs. x ∷ xs) (written-injective a b (head e)) (all-written-injective ds bs (tail e))
  where
    head : (written_matrix a ∷ map written_matrix ds) ≡ (written_matrix b ∷ map written_matrix bs)
        → written_matrix a ≡ written_matrix b
    head h = cc

    tail : (written_matrix a ∷ map written_matrix ds) ≡ (written_matrix b ∷ map written_matrix bs)
        → map written_matrix ds ≡ map written_matrix bs
    tail h = cc

-- of two pairs one comes first, or they are the same
pairs-ordered : (p q : ℕ × ℕ) → (p ≡ q) ⊎ ((is_before p q ≡ true) ⊎ (is_before q p ≡ true))
pairs-ordered p q =
    ⊎_elim
    (λ (e : p.0 ≡ q.0).
    ⊎_elim (λ (g : p.1 ≡ q.1). inl (ap₂ (λ a b. (a, b)) e g))
    (λ h.
    ⊎_elim (λ (l : p.1 < q.1). inr (inl (second p q e l))) (λ (l : q.1 < p.1). inr (inr (second q p (sym e) l))) h)
    (cases_order p.1 q.1))
    (λ h.
    ⊎_elim (λ (l : p.0 < q.0). inr (inl (first p q l))) (λ (l : q.0 < p.0). inr (inr (first q p l))) h)
    (cases_order p.0 q.0)
  where
    or-left : (a b : Bool) → a ≡ true → (a || b) ≡ true
    or-left true b e = refl
    or-left false b e = cc

    or-right : (a b : Bool) → b ≡ true → (a || b) ≡ true
    or-right true b e = refl
    or-right false b e = e

    first : (p q : ℕ × ℕ) → p.0 < q.0 → is_before p q ≡ true
    first p q l = or-left (nat_lt p.0 q.0) (nat_eq p.0 q.0 && nat_lt p.1 q.1) (lt-ltb p.0 q.0 l)

    second : (p q : ℕ × ℕ) → p.0 ≡ q.0 → p.1 < q.1 → is_before p q ≡ true
    second p q e l =
        or-right (nat_lt p.0 q.0) (nat_eq p.0 q.0 && nat_lt p.1 q.1)
        (ap₂ (λ a b. a && b) (eq-eqb p.0 q.0 e) (lt-ltb p.1 q.1 l))

-- there is one first pair
pub first-unique : (P : ℕ → ℕ → Type 0) (count : ℕ) (a b : Option (ℕ × ℕ)) → IsFirstFailure P count a
    → IsFirstFailure P count b → a ≡ b
first-unique P count None None h k = refl
first-unique P count None (Some q) h k = absurd (k.fails (h q.0 q.1))
first-unique P count (Some p) None h k = absurd (h.fails (k p.0 p.1))
first-unique P count (Some p) (Some q) h k =
    ⊎_elim (λ (e : p ≡ q). ap Some e)
    (λ o.
    ⊎_elim (λ (l : is_before p q ≡ true). absurd (h.fails (k.before p.0 p.1 l))) (λ (l : is_before q p ≡ true).
    absurd (k.fails (h.before q.0 q.1 l))) o)
    (pairs-ordered p q)

square-unique : (K : Ops) (c : CellComplex) (ms : List WrittenMatrix) (v w : Verdict) → IsSquareVerdict K c ms v
    → IsSquareVerdict K c ms w → v ≡ w
square-unique K c ms v w h k =
    let blocks : h.blocks ≡ k.blocks = all-written-injective h.blocks k.blocks (h.same ∙ sym k.same) in
    let here : IsFirstFailure (Commutes K c k.blocks) (length c.dims) h.bad =
    subst (λ bs. IsFirstFailure (Commutes K c bs) (length c.dims) h.bad) blocks h.first in
    h.verdict ∙ ap verdict_on_square (first-unique (Commutes K c k.blocks) (length c.dims) h.bad k.bad here k.first)
    ∙ sym k.verdict

list-unique : (K : Ops) (c : CellComplex) (v w : Verdict) (l : SheafLists) → IsListVerdict K c v l
    → IsListVerdict K c w l → v ≡ w
list-unique K c v w l = by (nat_lt 4096 (sum l.stalks))
  where
    by : (b : Bool) → MatchBool b (v ≡ Refused TotalLimit) (IsSquareVerdict K c l.matrices v)
        → MatchBool b (w ≡ Refused TotalLimit) (IsSquareVerdict K c l.matrices w) → v ≡ w
    by true h k = h ∙ sym k
    by false h k = square-unique K c l.matrices v w h k

pub verdict-unique : {F : Type 0} (K : Ops) (sheaf : SheafData F) (edit : Edit) (v w : Verdict)
    → IsVerdict K sheaf edit v → IsVerdict K sheaf edit w → v ≡ w
verdict-unique K sheaf edit v w = by (sets_made K sheaf.complex (sheaf_lists sheaf.stalks sheaf.blocks) 0 edit.sets)
  where
    by : (r : Result SheafLists Cause) → MatchResult r (IsListVerdict K sheaf.complex v) (λ cause. v ≡ Refused cause)
        → MatchResult r (IsListVerdict K sheaf.complex w) (λ cause. w ≡ Refused cause) → v ≡ w
    by (Ok l) h k = list-unique K sheaf.complex v w l h k
    by (Err cause) h k = h ∙ sym k

-- an answer that has a verdict tells each verdict
pub tells : {F : Type 0} (K : Ops) (sheaf : SheafData F) (edit : Edit) (r : Result (Unit {0}) EditFault)
    → OnOk r (IsVerdict K sheaf edit Accepted)
    → ((cause : Cause) → IsErrOf r (refused cause) → IsVerdict K sheaf edit (Refused cause)) → (v : Verdict)
    → IsVerdict K sheaf edit v → Tells r v
tells K sheaf edit (Ok x) ok err v h = verdict-unique K sheaf edit v Accepted h ok
tells K sheaf edit (Err (refused cause)) ok err v h = verdict-unique K sheaf edit v (Refused cause) h (err cause refl)
tells K sheaf edit (Err NoMemory) ok err v h = tt
