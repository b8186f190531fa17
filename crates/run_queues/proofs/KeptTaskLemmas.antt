-- What changes do to a task.
use Rattle.std.proofs.Common.{ℕ, inl, inr, ⊎_elim, [], ◌∷◌, Option, sym, subst}
use Rattle.std.specs.Prelude.{◌⊎◌}
use Rattle.arena_core.specs.PointerKinds.{PointerKind}
use Rattle.chain_laws.specs.Chains.{LinkMap}
use Rattle.arena_traits.specs.Entries.{ArenaView, ArenaState}
use Rattle.linked_lists.specs.declared.entry.Entry.{Entry}
use Rattle.linked_lists.specs.declared.entry.Entry.TheVariants as entries
use Rattle.linked_lists.specs.LinkedLists.{IsItem}
use Rattle.linked_lists.proofs.KeptItemLemmas.{kept_by_entries, kept_by_insertion, kept_by_value, removed_or_kept, removed_with_list_or_kept}
use Rattle.run_queues.specs.Histories.{Change, creates, spawns, gives_turn, moves, wakes_one, wakes_all, replaces, cancels, removes, grows, Makes, Ends, CallsKeepTasks}

module _ {A Gen T : Type 0} {view : A → ArenaView Gen (Entry T)} {entry : A → ℕ → Option (Gen × Entry T)} (state : (a : A) → ArenaState (view a) (entry a)) (interlinks : A → LinkMap)
    {P I W : Type 0} (pointers : PointerKind P I Gen W) where
  stays_or_ends : (old new : A) (change : Change Gen) (p : ℕ × Gen) → Makes state interlinks pointers old change new → IsItem (entry old) p → Ends state interlinks pointers old change p ⊎ IsItem (entry new) p
  stays_or_ends old new (creates q) p made item = inr (kept_by_insertion state interlinks old new p item entries.Head q made.head)
  stays_or_ends old new (spawns q r) p made item = inr (kept_by_insertion state interlinks old new p item (entries.Item made.1) r made.2.item)
  stays_or_ends old new (gives_turn q r) p made item = inr (kept_by_entries state interlinks old new p item made.entries.0)
  stays_or_ends old new (moves r q) p made item = inr (kept_by_entries state interlinks old new p item made.2.entries.0)
  stays_or_ends old new (wakes_one l q r) p made item = inr (kept_by_entries state interlinks old new p item made.moved.entries.0)
  stays_or_ends old new (wakes_all l q) p made item = inr (kept_by_entries state interlinks old new p item made.3.entries.0)
  stays_or_ends old new (replaces r) p made item = inr (kept_by_value state interlinks old new p item r made.0 made.3)
  stays_or_ends old new (cancels r) p made item = removed_or_kept state interlinks old new p item pointers r made.0 made.1
  stays_or_ends old new (removes q) p made item = removed_with_list_or_kept state interlinks old new p item pointers.following q made.0 made.1
  stays_or_ends old new grows p made item = inr (kept_by_entries state interlinks old new p item made.0)

  pub calls_keep : CallsKeepTasks state interlinks pointers
  calls_keep old new [] p history all item =
      let now = subst (λ (a : A). IsItem (entry a) p) (sym history) item in
      inr (now.value, all.items p now.value now.stored)
  calls_keep old new (change ∷ changes) p history all item = ⊎_elim
      (λ ended. inl (inl ended))
      (λ still. ⊎_elim (λ later. inl (inr later)) (λ there. inr there) (calls_keep history.1 new changes p history.3 all still))
      (stays_or_ends old history.1 change p history.2 item)
