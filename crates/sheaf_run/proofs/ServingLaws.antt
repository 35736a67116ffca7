-- Clients that are served one after the other make a solo order.
use Rattle.std.proofs.Common.{◌≡◌, ℕ, ◌+◌, ◌<◌, Bool, true, false, ◌==◌, if◌then◌else◌, nat_lt, List, [], ◌∷◌, ◌++◌}
use Rattle.std.proofs.Common.{length, slice_get, slice_index_or, Option, Some, None, refl, sym, ap, ap₂, subst}
use Rattle.std.proofs.Common.{inl, inr, ◌∙◌, arith, length-append, append-nil, append_assoc, All}
use Rattle.std.specs.Prelude.{unwrap_or, nat_eq, is_some}
use Rattle.std.specs.Map.{update}
use Rattle.std.proofs.lemmas.Option.{slice_get_within, get_or_from_slice_get}
use Rattle.std.proofs.lemmas.Bool.{eqb-true, eqb-false, eq-eqb, ne_eqb, ltb-true, ltb-false, lt-ltb, le-ltb}
use Rattle.dense_blocks.specs.Field.{Ops}
use Rattle.field_table.specs.declared.field.Field.{Field}
use Rattle.field_table.specs.Table.{ops_of}
use Rattle.block_complexes.specs.BlockComplexes.{BlockComplex, HaveSameMatrices}
use Rattle.block_complexes.proofs.SameLaws.{same-refl}
use Rattle.removals.specs.Reductions.{IsAfter}
use Rattle.block_sparse.specs.StoredBlocks.{complex_in}
use Rattle.coboundary.specs.Start.{start_complex}
use Rattle.reduce_step.specs.Logs.{pairs_of}
use Rattle.pair_commit.specs.Slots.{SlotValue}
use Rattle.first_reduction.specs.FirstPairs.{IsFirstReduction}
use Rattle.first_reduction.proofs.FirstLaws.{removed-more, reduction-after, reduction-irreducible}
use Rattle.sheaf_data.specs.Sheaves.{SheafData}
use Rattle.sheaf_data.specs.Betti.{cochain_complex_of, degree_count}
use Rattle.sheaf_words.specs.declared.query.Query.{Query}
use Rattle.sheaf_words.specs.declared.query.Query.TheVariants as queries
use Rattle.sheaf_words.specs.declared.query.Command.{Command}
use Rattle.sheaf_words.specs.declared.query.Command.TheVariants as commands
use Rattle.sheaf_words.specs.declared.edit.Edit.{Edit as Change}
use Rattle.sheaf_words.specs.declared.edit.Verdict.{Verdict}
use Rattle.sheaf_words.specs.declared.edit.Verdict.TheVariants.{Accepted, Refused}
use Rattle.sheaf_words.specs.declared.reply.Reply.{Reply as Answer}
use Rattle.sheaf_words.specs.declared.event.Event.{Event}
use Rattle.sheaf_words.specs.declared.event.Event.TheVariants.{Edit, Ask, Reply}
use Rattle.edit_versions.specs.Verdicts.{IsVerdict, IsEdited}
use Rattle.core_machine.specs.Replies.{Reduction}
use Rattle.core_machine.specs.Machine.{Lane, State, free_lane, waiting_lane, command_at, with_lane, EditStep, AskStep}
use Rattle.core_machine.specs.Machine.{PairStep, ReplyStep, Leads, IsDone}
use Rattle.core_machine.specs.Legal.{first_state}
use Rattle.core_machine.specs.Solo.{SoloStep, IsSoloOrder}
use Rattle.core_machine.proofs.CountLaws.{leads-more}
use Rattle.sheaf_run.specs.Sessions.{Progress, IsProgressAfter, IsJudged, position_of, IsProgress}
use Rattle.sheaf_run.specs.Sessions.{IsWaiting, IsSheafReduction, IsSoloReply, IsSoloAnswer, IsReducedFrom}
use Rattle.sheaf_run.specs.Sessions.{HasReduction}
use Rattle.sheaf_run.specs.Sessions.{removed_pairs, pair_events, version_reduction, IsKnownReduction}

slice_get-last : {X : Type 0} (xs : List X) (x : X) → slice_get (xs ++ x ∷ []) (length xs) ≡ Some x
slice_get-last [] x = refl
slice_get-last (y ∷ xs) x = slice_get-last xs x

-- ---- positions

if-same : {X : Type 0} (b : Bool) (x : X) → (if b then x else x) ≡ x
if-same true x = refl
if-same false x = refl

position-here : (scripts : List (List Command)) (c i : ℕ) → position_of scripts c i c ≡ i
position-here scripts c i =
    ap (λ b. if b then length (slice_index_or scripts c []) else if c == c then i else 0) (le-ltb c c (omega arith))
    ∙ ap (λ b. if b then i else 0) (eq-eqb c c refl)

-- client c has done one command more
position-more : (scripts : List (List Command)) (lanes : ℕ → Lane) (c i n d : ℕ)
    → lanes d ≡ free_lane (position_of scripts c i d)
    → with_lane lanes c (free_lane n) d ≡ free_lane (position_of scripts c n d)
position-more scripts lanes c i n d is = go (c == d) refl
  where
    go : (b : Bool) → (c == d) ≡ b → (if b then free_lane n else lanes d) ≡ free_lane (position_of scripts c n d)
    go true e =
        ap free_lane (sym (subst (λ k. position_of scripts c n k ≡ n) (eqb-true c d e) (position-here scripts c n)))
    go false e = is ∙ ap (λ b. free_lane (if nat_lt d c then length (slice_index_or scripts d []) else if b then
        i else 0)) e
        ∙ sym (ap (λ b. free_lane (if nat_lt d c then length (slice_index_or scripts d []) else if b then n else 0)) e)

-- client c is done, and the next one has done nothing yet
position-next : (scripts : List (List Command)) (c d : ℕ) (script : List Command) → slice_get scripts c ≡ Some script
    → position_of scripts c (length script) d ≡ position_of scripts (c + 1) 0 d
position-next scripts c d script there = go (nat_lt d c) (c == d) refl refl
  where
    go : (low same : Bool) → nat_lt d c ≡ low → (c == d) ≡ same → position_of scripts c (length script) d
        ≡ position_of scripts (c + 1) 0 d
    go true same l e =
        ap (λ b. if b then length (slice_index_or scripts d []) else if c == d then length script else 0) l
        ∙ sym (ap (λ b. if b then length (slice_index_or scripts d []) else if (c + 1) == d then 0 else 0)
        (lt-ltb d (c + 1) (omega (arith, ltb-true d c l))))
    go false true l e =
        ap₂ (λ a b. if a then length (slice_index_or scripts d []) else if b then length script else 0) l e
        ∙ sym (ap length (get_or_from_slice_get scripts d script [] (ap (slice_get scripts) (sym (eqb-true c d e))
        ∙ there)))
        ∙ sym (ap (λ b. if b then length (slice_index_or scripts d []) else if (c + 1) == d then 0 else 0)
        (lt-ltb d (c + 1) (omega (arith, eqb-true c d e))))
    go false false l e =
        ap₂ (λ a b. if a then length (slice_index_or scripts d []) else if b then length script else 0) l e
        ∙ sym (if-same ((c + 1) == d) 0)
        ∙ sym (ap (λ b. if b then length (slice_index_or scripts d []) else if (c + 1) == d then 0 else 0)
        (le-ltb d (c + 1) (omega (arith, ltb-false d c l, eqb-false c d e))))

-- ---- lanes

-- the clients before c have all of theirs done
done-before : (scripts : List (List Command)) (c i d : ℕ) (lane : Lane) → d < c
    → lane ≡ free_lane (position_of scripts c i d)
    → (script : List Command) → slice_get scripts d ≡ Some script → lane ≡ free_lane (length script)
done-before scripts c i d lane l is script there =
    is ∙ ap free_lane (
    ap (λ b. if b then length (slice_index_or scripts d []) else if c == d then i else 0) (lt-ltb d c l)
    ∙ ap length (get_or_from_slice_get scripts d script [] there))

-- the lane of client c, which waits
lane-waits : (lanes : ℕ → Lane) (c : ℕ) (lane : Lane) → with_lane lanes c lane c ≡ lane
lane-waits lanes c lane = ap (λ b. if b then lane else lanes c) (eq-eqb c c refl)

-- it no longer waits
lane-over : (lanes : ℕ → Lane) (c : ℕ) (waits free : Lane) (d : ℕ)
    → with_lane (with_lane lanes c waits) c free d ≡ with_lane lanes c free d
lane-over lanes c waits free d = go (c == d)
  where
    go : (b : Bool) → (if b then free else if b then waits else lanes d) ≡ (if b then free else lanes d)
    go true = refl
    go false = refl

lane-same : (lanes others : ℕ → Lane) (c d : ℕ) (lane : Lane) → ((e : ℕ) → lanes e ≡ others e)
    → with_lane lanes c lane d ≡ with_lane others c lane d
lane-same lanes others c d lane h = ap (λ l. if c == d then lane else l) (h d)

-- ---- what was removed

update-there : (pairs : ℕ → Option (List (ℕ × ℕ))) (v : ℕ) (o : Option (List (ℕ × ℕ)))
    → update nat_eq pairs v o v ≡ o
update-there pairs v o = ap (λ b. if b then o else pairs v) (eq-eqb v v refl)

update-later : (pairs : ℕ → Option (List (ℕ × ℕ))) (v u : ℕ) (o : Option (List (ℕ × ℕ))) → v < u
    → update nat_eq pairs v o u ≡ pairs u
update-later pairs v u o l = ap (λ b. if b then o else pairs u) (ne_eqb v u (λ e. absurd (omega (arith, l, e))))

leads-then : (K : Ops) (scripts : List (List Command)) (es fs : List Event) (s m t : State Field)
    → Leads (SoloStep K scripts) es s m → Leads (SoloStep K scripts) fs m t → Leads (SoloStep K scripts) (es ++ fs) s t
leads-then K scripts [] fs s m t h g = subst (λ x. Leads (SoloStep K scripts) fs x t) (sym h) g
leads-then K scripts (e ∷ es) fs s m t h g = (h.0, h.1, leads-then K scripts es fs h.0 m t h.2 g)

-- ---- steps

-- the client's edit is judged
pub judge-step : (scripts : List (List Command)) (start : SheafData Field) (c i : ℕ) (p : Progress) (e : Change)
    (v : Verdict) (new : Progress)
    → command_at scripts c i ≡ Some (commands.Change e) → IsJudged p e v new → IsProgress scripts start c i p
    → IsProgress scripts start c (i + 1) (record new { events = p.events ++ Edit c v ∷ [] })
judge-step scripts start c i p e v new comes judged h = go v judged.after judged.judged
  where
    lanes : ℕ → Lane
    lanes = with_lane h.state.lanes c (free_lane (i + 1))

    before : (d : ℕ) → d < c → IsDone scripts h.state.lanes d
    before d l = done-before scripts c i d (h.state.lanes d) l (h.lanes_are d)

    go : (w : Verdict) → IsProgressAfter p e w new → IsVerdict (ops_of p.sheaf.field) p.sheaf e w
        → IsProgress scripts start c (i + 1) (record new { events = p.events ++ Edit c w ∷ [] })
    go Accepted edited is =
        let K : Ops = ops_of start.field in
        let right : IsEdited K p.sheaf e new.sheaf = subst (λ f. IsEdited (ops_of f) p.sheaf e new.sheaf) h.field
        edited.sheaf in
        let after : State Field =
        record { sheaves = h.state.sheaves ++ new.sheaf ∷ []; lanes = lanes; pairs = h.state.pairs } in
        let step : EditStep K scripts c Accepted h.state after = record {
          position = i;
          edit = e;
          version = p.version;
          sheaf = p.sheaf;
          is_free = h.lanes_are c ∙ ap free_lane (position-here scripts c i);
          command = comes;
          current = h.current;
          current_sheaf = h.current_sheaf;
          judged = subst (λ f. IsVerdict (ops_of f) p.sheaf e Accepted) h.field is;
          versions = (new.sheaf, right, refl);
          lanes = refl;
          pairs = refl;
        } in record {
          state = after;
          legal = leads-more (SoloStep K scripts) p.events (Edit c Accepted) (first_state start) h.state after h.legal
              (step, before);
          current = length-append h.state.sheaves (new.sheaf ∷ []) ∙ ap (λ n. n + 1) (h.current ∙ sym edited.version);
          current_sheaf = subst (λ n. slice_get (h.state.sheaves ++ new.sheaf ∷ []) n ≡ Some new.sheaf)
              (h.current ∙ sym edited.version) (slice_get-last h.state.sheaves new.sheaf);
          field = edited.sheaf.field ∙ h.field;
          lanes_are = λ d. position-more scripts h.state.lanes c i (i + 1) d (h.lanes_are d);
          pairs_are = h.later new.version (omega (arith, edited.version)) ∙ ap removed_pairs (sym edited.slot);
          later = λ u l. h.later u (omega (arith, edited.version, l));
        }
    go (Refused cause) same is =
        let K : Ops = ops_of start.field in
        let after : State Field = record { sheaves = h.state.sheaves; lanes = lanes; pairs = h.state.pairs } in
        let step : EditStep K scripts c (Refused cause) h.state after = record {
          position = i;
          edit = e;
          version = p.version;
          sheaf = p.sheaf;
          is_free = h.lanes_are c ∙ ap free_lane (position-here scripts c i);
          command = comes;
          current = h.current;
          current_sheaf = h.current_sheaf;
          judged = subst (λ f. IsVerdict (ops_of f) p.sheaf e (Refused cause)) h.field is;
          versions = refl;
          lanes = refl;
          pairs = refl;
        } in
        let events : List Event = p.events ++ Edit c (Refused cause) ∷ [] in
        subst (λ q. IsProgress scripts start c (i + 1) (record q { events = events })) (sym same) (record {
          state = after;
          legal = leads-more (SoloStep K scripts) p.events (Edit c (Refused cause)) (first_state start) h.state after
              h.legal (step, before);
          current = h.current;
          current_sheaf = h.current_sheaf;
          field = h.field;
          lanes_are = λ d. position-more scripts h.state.lanes c i (i + 1) d (h.lanes_are d);
          pairs_are = h.pairs_are;
          later = h.later;
        })

-- the client's question is asked
pub ask-step : (scripts : List (List Command)) (start : SheafData Field) (c i : ℕ) (p : Progress) (q : Query)
    → command_at scripts c i ≡ Some (commands.Ask q) → IsProgress scripts start c i p
    → IsWaiting scripts start c i (record p { events = p.events ++ Ask c ∷ [] })
ask-step scripts start c i p q comes h =
    let K : Ops = ops_of start.field in
    let removed : List (ℕ × ℕ) = unwrap_or (h.state.pairs p.version) [] in
    let asking : State Field = record {
      sheaves = h.state.sheaves;
      lanes = with_lane h.state.lanes c (waiting_lane i p.version);
      pairs = update nat_eq h.state.pairs p.version (Some removed);
    } in
    let ask : AskStep scripts c h.state asking = record {
      position = i;
      query = q;
      version = p.version;
      is_free = h.lanes_are c ∙ ap free_lane (position-here scripts c i);
      command = comes;
      current = h.current;
      versions = refl;
      lanes = refl;
      pairs = refl;
    } in record {
      state = asking;
      legal = leads-more (SoloStep K scripts) p.events (Ask c) (first_state start) h.state asking h.legal
          (ask, λ d l. done-before scripts c i d (h.state.lanes d) l (h.lanes_are d));
      current = h.current;
      current_sheaf = h.current_sheaf;
      field = h.field;
      lanes_are = λ d. lane-same h.state.lanes (λ d. free_lane (position_of scripts c i d)) c d
          (waiting_lane i p.version) h.lanes_are;
      pairs_are = update-there h.state.pairs p.version (Some removed)
          ∙ ap (λ o. Some (unwrap_or o [])) h.pairs_are;
      later = λ u l. update-later h.state.pairs p.version u (Some removed) l ∙ h.later u l;
    }

-- ---- the pairs of a version

module _ (K : Ops) (scripts : List (List Command)) (d : SheafData Field) (v : ℕ) (start : BlockComplex)
    (same : HaveSameMatrices (start_complex K d.complex d.stalks d.blocks) start) where
  -- what stays, and these pairs
  record HasPairs (s t : State Field) (pairs : List (ℕ × ℕ)) : Type 0 where
    sheaves : t.sheaves ≡ s.sheaves
    lanes : t.lanes ≡ s.lanes
    there : t.pairs v ≡ Some pairs
    later : (u : ℕ) → v < u → t.pairs u ≡ s.pairs u

  abbrev reduction_at : List (ℕ × ℕ) → BlockComplex → Reduction
  reduction_at pairs rest = record {
    whole = cochain_complex_of K d.complex d.stalks d.blocks;
    degrees = degree_count d.complex.dims;
    start = start;
    pairs = pairs;
    rest = rest;
  }

  pairs-lead : (ps qs : List (ℕ × ℕ)) (m w : BlockComplex) (s : State Field) → slice_get s.sheaves v ≡ Some d
      → s.pairs v ≡ Some ps → IsAfter K start ps m → IsFirstReduction K m qs w
      → (t : State Field) × Leads (SoloStep K scripts) (pair_events v qs) s t × HasPairs s t (ps ++ qs)
  pairs-lead ps [] m w s sheaf removed after r = (
    s,
    refl,
    record {
      sheaves = refl;
      lanes = refl;
      there = removed ∙ ap Some (sym (append-nil ps));
      later = λ u l. refl;
    },
  )
  pairs-lead ps (q ∷ qs) m w s sheaf removed after r =
      let next = ps ++ (q.0, q.1) ∷ [] in
      let middle : State Field = record {
        sheaves = s.sheaves;
        lanes = s.lanes;
        pairs = update nat_eq s.pairs v (Some next);
      } in
      let removal = r.3 in
      let step : PairStep K v q.0 q.1 s middle = record {
        reduction = reduction_at ps m;
        asked = record {
          sheaf = d;
          version = sheaf;
          whole = refl;
          degrees = refl;
          start = same;
          removed = removed;
          rest = after;
        };
        invertible = (r.1, record { pair = removal.pair; square = removal.square; inverse = removal.inverse });
        versions = refl;
        lanes = refl;
        pairs = refl;
      } in
      let rest = pairs-lead next qs r.0 w middle sheaf (update-there s.pairs v (Some next))
      (removed-more K start m r.0 ps q.0 q.1 r.1 after removal) r.4 in (
        rest.0,
        (middle, (step, r.2), rest.1),
        record {
          sheaves = rest.2.sheaves;
          lanes = rest.2.lanes;
          there = rest.2.there ∙ ap Some (append_assoc ps (q ∷ []) qs);
          later = λ u l. rest.2.later u l ∙ update-later s.pairs v u (Some next) l;
        },
      )

-- the current version, which was not asked before, has been reduced
pub reduce-step : (scripts : List (List Command)) (start : SheafData Field) (c i : ℕ) (p : Progress)
    (slot : SlotValue Field) → p.slot ≡ None → IsSheafReduction p.sheaf slot → IsWaiting scripts start c i p
    → IsWaiting scripts start c i
    (record p { slot = Some slot; events = p.events ++ pair_events p.version (pairs_of slot.log) })
reduce-step scripts start c i p slot none is h =
    let K : Ops = ops_of start.field in
    let right : IsSheafReduction (record p.sheaf { field = start.field }) slot = subst
    (λ f. IsSheafReduction (record p.sheaf { field = f }) slot) h.field is in
    let made = pairs-lead K scripts p.sheaf p.version (complex_in slot.base) right.start [] (pairs_of slot.log)
    (complex_in slot.base) (complex_in slot.present) h.state h.current_sheaf
    (h.pairs_are ∙ ap (λ o. Some (unwrap_or (removed_pairs o) [])) none) (same-refl (complex_in slot.base))
    right.reduction in
    record {
      state = made.0;
      legal = leads-then K scripts p.events (pair_events p.version (pairs_of slot.log)) (first_state start) h.state
          made.0 h.legal made.1;
      current = ap length made.2.sheaves ∙ h.current;
      current_sheaf = ap (λ l. slice_get l p.version) made.2.sheaves ∙ h.current_sheaf;
      field = h.field;
      lanes_are = λ d. ap (λ lanes. lanes d) made.2.lanes ∙ h.lanes_are d;
      pairs_are = made.2.there;
      later = λ u l. made.2.later u l ∙ h.later u l;
    }

-- the question is answered
pub reply-step : (scripts : List (List Command)) (start : SheafData Field) (c i : ℕ) (p : Progress)
    (slot : SlotValue Field) (q : Query) (r : Answer)
    → command_at scripts c i ≡ Some (commands.Ask q) → p.slot ≡ Some slot → IsSheafReduction p.sheaf slot
    → IsSoloReply p.sheaf slot q r → IsWaiting scripts start c i p
    → IsProgress scripts start c (i + 1) (record p { events = p.events ++ Reply c r ∷ [] })
reply-step scripts start c i p slot q r comes there is right h =
    let K : Ops = ops_of start.field in
    let after : State Field = record {
      sheaves = h.state.sheaves;
      lanes = with_lane h.state.lanes c (free_lane (i + 1));
      pairs = h.state.pairs;
    } in
    let own : IsSheafReduction (record p.sheaf { field = start.field }) slot = subst
    (λ f. IsSheafReduction (record p.sheaf { field = f }) slot) h.field is in
    let good : IsSoloReply (record p.sheaf { field = start.field }) slot q r = subst
    (λ f. IsSoloReply (record p.sheaf { field = f }) slot q r) h.field right in
    let reply : ReplyStep K scripts c r h.state after = record {
      position = i;
      query = q;
      version = p.version;
      reduction = version_reduction (record p.sheaf { field = start.field }) slot;
      is_waiting = h.lanes_are c
          ∙ lane-waits (λ d. free_lane (position_of scripts c i d)) c (waiting_lane i p.version);
      command = comes;
      asked = record {
        sheaf = p.sheaf;
        version = h.current_sheaf;
        whole = refl;
        degrees = refl;
        start = own.start;
        removed = h.pairs_are ∙ ap (λ o. Some (unwrap_or (removed_pairs o) [])) there;
        rest = reduction-after K (complex_in slot.base) (complex_in slot.present) (pairs_of slot.log) own.reduction;
      };
      irreducible =
          reduction-irreducible K (complex_in slot.base) (complex_in slot.present) (pairs_of slot.log) own.reduction;
      right = good.right;
      versions = refl;
      lanes = refl;
      pairs = refl;
    } in record {
      state = after;
      legal = leads-more (SoloStep K scripts) p.events (Reply c r) (first_state start) h.state after h.legal
          (reply, good.choices);
      current = h.current;
      current_sheaf = h.current_sheaf;
      field = h.field;
      lanes_are = λ d.
          lane-same h.state.lanes
          (with_lane (λ d. free_lane (position_of scripts c i d)) c (waiting_lane i p.version)) c d
          (free_lane (i + 1)) h.lanes_are
          ∙ lane-over (λ d. free_lane (position_of scripts c i d)) c (waiting_lane i p.version) (free_lane (i + 1)) d
          ∙ position-more scripts (λ d. free_lane (position_of scripts c i d)) c i (i + 1) d refl;
      pairs_are = h.pairs_are ∙ ap (λ o. Some (unwrap_or (removed_pairs o) [])) there
          ∙ sym (ap removed_pairs there);
      later = h.later;
    }

-- ---- first and last

pub first-progress : (scripts : List (List Command)) (start : SheafData Field)
    → IsProgress scripts start 0 0 (record { sheaf = start; version = 0; slot = None; events = [] })
first-progress scripts start = record {
  state = first_state start;
  legal = refl;
  current = refl;
  current_sheaf = refl;
  field = refl;
  lanes_are = λ d. ap free_lane
      (sym (ap (λ b. if b then length (slice_index_or scripts d []) else if 0 == d then 0 else 0)
      (le-ltb d 0 (omega arith)) ∙ if-same (0 == d) 0));
  pairs_are = refl;
  later = λ u l. refl;
}

pub last-progress : (scripts : List (List Command)) (start : SheafData Field) (p : Progress)
    → IsProgress scripts start (length scripts) 0 p → IsSoloOrder (ops_of start.field) scripts start p.events
last-progress scripts start p h = record {
  last = h.state;
  legal = h.legal;
  whole = λ c script there. h.lanes_are c ∙ ap free_lane (
      ap (λ b. if b then length (slice_index_or scripts c []) else if length scripts == c then 0 else 0)
      (lt-ltb c (length scripts) (slice_get_within scripts c script there))
      ∙ ap length (get_or_from_slice_get scripts c script [] there));
}

-- ---- what the calls made of the progress

judged-events : (p new : Progress) (e : Change) (v : Verdict) → IsProgressAfter p e v new → new.events ≡ p.events
judged-events p new e Accepted next = next.events
judged-events p new e (Refused cause) same = ap (λ (q : Progress). q.events) same

not-some : {X : Type 0} (o : Option X) → is_some o ≡ false → o ≡ None
not-some None h = refl
not-some (Some x) h = cc

abbrev after-asking : Progress → SlotValue Field → List Event → Progress
after-asking p slot events = record { sheaf = p.sheaf; version = p.version; slot = Some slot; events = events }

-- a version that was not asked before, and is reduced now
pub first-asked : (p old : Progress) (slot kept : SlotValue Field) (events : List Event) → p ≡ old
    → is_some p.slot ≡ false → IsSheafReduction p.sheaf slot
    → events ≡ p.events ++ pair_events p.version (pairs_of slot.log) → kept ≡ slot
    → IsReducedFrom old (record { sheaf = p.sheaf; version = p.version; slot = Some kept; events = events })
first-asked p old slot kept events same none reduction grown is =
    subst (λ q. IsReducedFrom q (after-asking p kept events)) same (inr (record {
      none = not-some p.slot none;
      slot = slot;
      reduction = reduction;
      new_is = ap₂ (after-asking p) is grown;
    }))

-- the reduction of a version that was asked
pub known-reduction : (p : Progress) → is_some p.slot ≡ true → IsKnownReduction p.sheaf p.slot → HasReduction p
known-reduction p is known = go p.slot refl is known
  where
    go : (o : Option (SlotValue Field)) → p.slot ≡ o → is_some o ≡ true → IsKnownReduction p.sheaf o → HasReduction p
    go None e there known = cc
    go (Some slot) e there known = record { slot = slot; there = e; reduction = known }

-- the edit was judged
pub edit-progress : (scripts : List (List Command)) (start : SheafData Field) (c i : ℕ) (e : Change) (v : Verdict)
    (old middle new : Progress) (after : List Event) → IsJudged old e v middle → middle ≡ new
    → after ≡ new.events ++ Edit c v ∷ [] → command_at scripts c i ≡ Some (commands.Change e)
    → IsProgress scripts start c i old
    → IsProgress scripts start c (i + 1) (record new { events = after })
edit-progress scripts start c i e v old middle new after judged same f comes h =
    let own : IsJudged old e v new = subst (IsJudged old e v) same judged in
    subst (λ es. IsProgress scripts start c (i + 1) (record new { events = es }))
    (sym (f ∙ ap (λ es. es ++ Edit c v ∷ []) (judged-events old new e v own.after)))
    (judge-step scripts start c i old e v new comes own h)

-- the question was asked, the version reduced, and the question answered
pub answer-progress : (scripts : List (List Command)) (start : SheafData Field) (c i : ℕ) (q : Query) (r : Answer)
    (old before reduced middle new : Progress) (asked after : List Event) → before ≡ old
    → asked ≡ before.events ++ Ask c ∷ [] → IsReducedFrom (record before { events = asked }) reduced
    → HasReduction reduced → IsSoloAnswer reduced q r → middle ≡ reduced → new ≡ middle
    → after ≡ new.events ++ Reply c r ∷ [] → command_at scripts c i ≡ Some (commands.Ask q)
    → IsProgress scripts start c i old
    → IsProgress scripts start c (i + 1) (record new { events = after })
answer-progress scripts start c i q r old before reduced middle new asked after was e step known right same is f comes
    h =
    subst (λ es. IsProgress scripts start c (i + 1) (record new { events = es })) (sym f)
    (subst (λ p. IsProgress scripts start c (i + 1) (record p { events = p.events ++ Reply c r ∷ [] }))
    (sym (is ∙ same))
    (reply-step scripts start c i reduced known.slot q r comes known.there known.reduction
    (right known.slot known.there known.reduction.field) (go step)))
  where
    waits : IsWaiting scripts start c i (record before { events = asked })
    waits = subst (λ es. IsWaiting scripts start c i (record before { events = es })) (sym e)
        (ask-step scripts start c i before q comes (subst (IsProgress scripts start c i) (sym was) h))

    go : IsReducedFrom (record before { events = asked }) reduced → IsWaiting scripts start c i reduced
    go (inl stays) = subst (IsWaiting scripts start c i) (sym stays.1) waits
    go (inr first) = subst (IsWaiting scripts start c i) (sym first.new_is)
        (reduce-step scripts start c i (record before { events = asked }) first.slot first.none first.reduction waits)
