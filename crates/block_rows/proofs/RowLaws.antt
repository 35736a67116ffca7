-- The blocks of a row by cell.
use Rattle.std.proofs.Common.{◌≡◌, ℕ, zero, suc, Bool, true, false, cond, refl, sym, ap, ◌∙◌, ap₂, inl, inr, List, []}
use Rattle.std.proofs.Common.{◌∷◌, length, map, replicate, Option, Some, None, eqb, arith, ◌⊎◌, ◌||◌, ◌+◌, ◌++◌}
use Rattle.std.proofs.Common.{length-append}
use Rattle.std.proofs.lemmas.List.{get_or_push, get_or_append_left}
use Rattle.std.specs.Option.{unwrap_or, option_map, is_some}
use Rattle.std.proofs.lemmas.Bool.{eq-eqb, ne_eqb, cases_eq, cases_lt}
use Rattle.dense_blocks.specs.declared.block.Block.{Block}
use Rattle.rising_lists.specs.Rising.{ByCell, IsLine, has, look, entry, entry_after}
use Rattle.rising_lists.proofs.Keyed.{is_some-look}
use Rattle.block_rows.specs.BlockRows.{AreScalarBlocks, scalar_block, block_or, blocks_of, row_of}

pub blocks-count : (cs es : List ℕ) (larger : ByCell Block) → length es ≡ length cs → length (blocks_of cs es larger)
    ≡ length cs
blocks-count [] es larger h = refl
blocks-count (c ∷ cs) [] larger h = absurd (omega arith)
blocks-count (c ∷ cs) (e ∷ es) larger h = omega (arith, blocks-count cs es larger (omega arith))

pub row-line : (entries : ByCell ℕ) (larger : ByCell Block) → IsLine {A = ℕ} entries
    → IsLine {A = Block} (row_of entries larger)
row-line entries larger line = record {
  rising = line.rising;
  full = blocks-count entries.cells entries.values larger line.full;
}

look-blocks : (q : ℕ) (cs es : List ℕ) (larger : ByCell Block)
    → look q cs (blocks_of cs es larger) ≡ option_map (block_or larger q) (look q cs es)
look-blocks q [] es larger = refl
look-blocks q (c ∷ cs) [] larger = refl
look-blocks q (c ∷ cs) (e ∷ es) larger = go (cases_eq c q) (look-blocks q cs es larger)
  where
    go : (c ≡ q) ⊎ (c ≡ q → ⊥) → look q cs (blocks_of cs es larger) ≡ option_map (block_or larger q) (look q cs es)
        → cond (eqb c q) (Some (block_or larger c e)) (look q cs (blocks_of cs es larger))
        ≡ option_map (block_or larger q) (cond (eqb c q) (Some e) (look q cs es))
    go (inl same) h = rw (eq-eqb c q same) (ap (λ k. Some (block_or larger k e)) same)
    go (inr other) h = rw (ne_eqb c q other) h

-- the block at a cell
pub entry-row : (entries : ByCell ℕ) (larger : ByCell Block) (q : ℕ)
    → entry (row_of entries larger) q ≡ option_map (block_or larger q) (entry entries q)
entry-row entries larger q = look-blocks q entries.cells entries.values larger

-- the block at a cell where no larger ones stand
pub entry-scalars : (entries : ByCell ℕ) (larger : ByCell Block) (q : ℕ) → larger.cells ≡ []
    → entry (row_of entries larger) q ≡ option_map scalar_block (entry entries q)
entry-scalars entries larger q none =
    entry-row entries larger q
    ∙ ap (λ cs. option_map (λ e. unwrap_or (look q cs larger.values) (scalar_block e)) (entry entries q)) none

pub look-map : {A B : Type 0} (f : A → B) (q : ℕ) (cs : List ℕ) (vs : List A)
    → look q cs (map f vs) ≡ option_map f (look q cs vs)
look-map f q [] vs = refl
look-map f q (c ∷ cs) [] = refl
look-map f q (c ∷ cs) (v ∷ vs) = go (eqb c q) (look-map f q cs vs)
  where
    go : (b : Bool) → look q cs (map f vs) ≡ option_map f (look q cs vs)
        → cond b (Some (f v)) (look q cs (map f vs)) ≡ option_map f (cond b (Some v) (look q cs vs))
    go true h = refl
    go false h = h

-- a row without a cell
pub entry-without : (E E' : ByCell ℕ) (L L' : ByCell Block) (there : Bool) (q : ℕ)
    → entry E' q ≡ cond there None (entry E q) → entry L' q ≡ cond there None (entry L q)
    → entry (row_of E' L') q ≡ cond there None (entry (row_of E L) q)
entry-without E E' L L' there q e l =
    entry-row E' L' q ∙ go there e l ∙ sym (ap (cond there None) (entry-row E L q))
  where
    go : (b : Bool) → entry E' q ≡ cond b None (entry E q) → entry L' q ≡ cond b None (entry L q)
        → option_map (block_or L' q) (entry E' q) ≡ cond b None (option_map (block_or L q) (entry E q))
    go true e l = ap (option_map (block_or L' q)) e
    go false e l =
        ap (λ o. option_map (λ n. unwrap_or o (scalar_block n)) (entry E' q)) l ∙ ap (option_map (block_or L q)) e

-- a row with one more block of one entry
pub entry-pushed : (E E' : ByCell ℕ) (L L' : ByCell Block) (c e q : ℕ)
    → entry E' q ≡ cond (eqb q c) (Some e) (entry E q) → entry L' q ≡ cond (eqb q c) None (entry L q)
    → entry (row_of E' L') q ≡ cond (eqb q c) (Some (scalar_block e)) (entry (row_of E L) q)
entry-pushed E E' L L' c e q put taken =
    entry-row E' L' q ∙ go (eqb q c) put taken
    ∙ sym (ap (cond (eqb q c) (Some (scalar_block e))) (entry-row E L q))
  where
    go : (b : Bool) → entry E' q ≡ cond b (Some e) (entry E q) → entry L' q ≡ cond b None (entry L q)
        → option_map (block_or L' q) (entry E' q)
        ≡ cond b (Some (scalar_block e)) (option_map (block_or L q) (entry E q))
    go true put taken =
        ap (λ o. option_map (λ n. unwrap_or o (scalar_block n)) (entry E' q)) taken ∙ ap (option_map scalar_block) put
    go false put taken =
        ap (λ o. option_map (λ n. unwrap_or o (scalar_block n)) (entry E' q)) taken ∙ ap (option_map (block_or L q)) put

-- a row with fresh entries
pub entry-entries : (E E' : ByCell ℕ) (L L' : ByCell Block) (ks : List ℕ) (es : List (Option ℕ)) (q : ℕ)
    → length es ≡ length ks
    → entry E' q ≡ entry_after ks es (entry E q) q → entry L' q ≡ cond (has q ks) None (entry L q)
    → entry (row_of E' L') q ≡ entry_after ks (map (option_map scalar_block) es) (entry (row_of E L) q) q
entry-entries E E' L L' ks es q full e l =
    entry-row E' L' q
    ∙ go (look q ks es) e (l ∙ ap (λ b. cond b None (entry L q)) (sym (is_some-look q ks es full)))
    ∙ sym (ap₂ (λ o old. unwrap_or o old) (look-map (option_map scalar_block) q ks es) (entry-row E L q))
  where
    go : (o : Option (Option ℕ)) → entry E' q ≡ unwrap_or o (entry E q) → entry L' q
        ≡ cond (is_some o) None (entry L q)
        → option_map (block_or L' q) (entry E' q)
        ≡ unwrap_or (option_map (option_map scalar_block) o) (option_map (block_or L q) (entry E q))
    go None e l =
        ap (λ o. option_map (λ n. unwrap_or o (scalar_block n)) (entry E' q)) l ∙ ap (option_map (block_or L q)) e
    go (Some o) e l =
        ap (λ p. option_map (λ n. unwrap_or p (scalar_block n)) (entry E' q)) l ∙ ap (option_map scalar_block) e

-- a row with fresh blocks
pub entry-blocks : (E E' : ByCell ℕ) (L L' : ByCell Block) (ks : List ℕ) (bs : List (Option Block)) (q : ℕ)
    → entry E' q ≡ entry_after ks (map (option_map (λ _. 1)) bs) (entry E q) q
    → entry L' q ≡ entry_after ks bs (entry L q) q
    → entry (row_of E' L') q ≡ entry_after ks bs (entry (row_of E L) q) q
entry-blocks E E' L L' ks bs q e l =
    entry-row E' L' q
    ∙ go (look q ks bs) (e ∙ ap (λ o. unwrap_or o (entry E q)) (look-map (option_map (λ _. 1)) q ks bs)) l
    ∙ sym (ap (unwrap_or (look q ks bs)) (entry-row E L q))
  where
    go : (o : Option (Option Block)) → entry E' q ≡ unwrap_or (option_map (option_map (λ _. 1)) o) (entry E q)
        → entry L' q ≡ unwrap_or o (entry L q)
        → option_map (block_or L' q) (entry E' q) ≡ unwrap_or o (option_map (block_or L q) (entry E q))
    go None e l =
        ap (λ o. option_map (λ n. unwrap_or o (scalar_block n)) (entry E' q)) l ∙ ap (option_map (block_or L q)) e
    go (Some None) e l = ap (option_map (block_or L' q)) e
    go (Some (Some b)) e l =
        ap (option_map (block_or L' q)) e ∙ ap (λ o. Some (unwrap_or o (scalar_block 1))) l

-- what none of the listed cells keeps
pub entry-none : {A : Type 0} (ks : List ℕ) (n q : ℕ) (old : Option A) → n ≡ length ks
    → entry_after ks (replicate n None) old q ≡ cond (has q ks) None old
entry-none [] zero q old h = refl
entry-none [] (suc n) q old h = absurd (omega arith)
entry-none (k ∷ ks) zero q old h = absurd (omega arith)
entry-none (k ∷ ks) (suc n) q old h = go (eqb k q) (entry-none ks n q old (omega arith))
  where
    go : (b : Bool) → entry_after ks (replicate n None) old q ≡ cond (has q ks) None old
        → unwrap_or (cond b (Some None) (look q ks (replicate n None))) old ≡ cond (b || has q ks) None old
    go true h = refl
    go false h = h

-- one more block of one entry
pub scalar-more : (bs : List Block) (b : Block) (n : ℕ) → AreScalarBlocks bs n → b ≡ scalar_block n
    → AreScalarBlocks (bs ++ b ∷ []) (n + 1)
scalar-more bs b n are is = record {
  count = omega (arith, length-append bs (b ∷ []), are.count);
  each = λ e d l. elim (cases_lt e n) [
    | inl u ↦ get_or_append_left bs (b ∷ []) d e (omega (arith, u, are.count)) ∙ are.each e d u
    | inr u ↦
        let same : n ≡ e = omega arith in
        get_or_push bs b d e (omega (arith, are.count, same)) ∙ is ∙ ap scalar_block same
  ];
}
