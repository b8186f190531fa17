-- What changes do to a paragraph.
use Rattle.std.proofs.Common.{ℕ, inl, inr, ⊎_elim, [], ◌∷◌, Option, sym, subst}
use Rattle.std.specs.Prelude.{◌⊎◌, Bool, IsSome}
use Rattle.arena_core.specs.Invalidation.{value_within}
use Rattle.arena_core.specs.PointerKinds.{PointerKind}
use Rattle.arena_core.specs.declared.invalidation.InvalidationResult.{InvalidationResult}
use Rattle.arena_core.specs.declared.invalidation.InvalidationResult.TheVariants.{Success, GenerationOverflow, InvalidPtr}
use Rattle.chain_laws.specs.Chains.{LinkMap}
use Rattle.arena_traits.specs.Entries.{ArenaView, ArenaState}
use Rattle.arena_traits.specs.CallOutcomes.{ReportsOverflow}
use Rattle.linked_lists.specs.declared.entry.Entry.{Entry}
use Rattle.linked_lists.specs.declared.entry.Entry.TheVariants as entries
use Rattle.linked_lists.specs.LinkedLists.{IsItem, AllInLists}
use Rattle.linked_lists.proofs.KeptItemLemmas.{kept_by_entries, kept_by_insertion, kept_by_value, removed_or_kept, removed_with_list_or_kept}
use Rattle.documents.specs.Histories.{Change, creates, inserts, replaces, moves, removes, removes_document, grows, Makes, Removes, CallsKeepParagraphs}

pub done_anyway : {X Gen : Type 0} (wraps : Gen → Bool) (counter : Option Gen) (invalid : Type 0) (done : X → Type 0) (r : InvalidationResult X) → IsSome (value_within r) → ReportsOverflow wraps counter invalid done r → (x : X) × done x
done_anyway wraps counter invalid done InvalidPtr some is = absurd (cc)
done_anyway wraps counter invalid done (Success x) some is = (x, is.1)
done_anyway wraps counter invalid done (GenerationOverflow x) some is = (x, is.1)

module _ {A Gen T : Type 0} {view : A → ArenaView Gen (Entry T)} {entry : A → ℕ → Option (Gen × Entry T)} (state : (a : A) → ArenaState (view a) (entry a)) (interlinks : A → LinkMap)
    {P I W : Type 0} (pointers : PointerKind P I Gen W) where
  stays_or_goes : (old new : A) (change : Change Gen) (p : ℕ × Gen) → Makes state interlinks pointers old change new → IsItem (entry old) p → Removes state interlinks pointers old change p ⊎ IsItem (entry new) p
  stays_or_goes old new (creates d) p made item = inr (kept_by_insertion state interlinks old new p item entries.Head d made)
  stays_or_goes old new (inserts q) p made item = inr (kept_by_insertion state interlinks old new p item (entries.Item made.0) q made.1)
  stays_or_goes old new (replaces q) p made item = inr (kept_by_value state interlinks old new p item q made.0 made.1)
  stays_or_goes old new moves p made item = inr (kept_by_entries state interlinks old new p item made.0)
  stays_or_goes old new (removes q) p made item = removed_or_kept state interlinks old new p item pointers q made.0 made.1
  stays_or_goes old new (removes_document d) p made item = removed_with_list_or_kept state interlinks old new p item pointers.following d made.0 made.1
  stays_or_goes old new grows p made item = inr (kept_by_entries state interlinks old new p item made.0)

  pub calls_keep : CallsKeepParagraphs state interlinks pointers
  calls_keep old new [] p history item =
      let all = subst (AllInLists state interlinks) (sym history.1) history.0 in
      let now = subst (λ (a : A). IsItem (entry a) p) (sym history.1) item in
      inr (now.value, all.items p now.value now.stored, all)
  calls_keep old new (change ∷ changes) p history item = ⊎_elim
      (λ gone. inl (inl gone))
      (λ still. ⊎_elim (λ later. inl (inr later)) (λ there. inr there) (calls_keep history.1 new changes p history.3 still))
      (stays_or_goes old history.1 change p history.2 item)
