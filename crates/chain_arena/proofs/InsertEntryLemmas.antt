-- Entries for new links: their arena, and the links beside them.
use Rattle.std.proofs.Common.{◌≡◌, ℕ, ◌+◌, Option, Result, Ok, Err, sym, ◌∙◌, subst}
use Rattle.std.specs.Option.{option_map}
use Rattle.arena_core.specs.PointerKinds.{PointerKind}
use Rattle.arena_traits.specs.Arena.{entry_count}
use Rattle.arena_base.specs.Growths.{HasGrownFor}
use Rattle.chain_laws.specs.declared.insert_kind.InsertKind.{InsertKind}
use Rattle.chain_links.specs.ChainArena.{nonzero_index}
use Rattle.chain_arena.specs.Effects.{Links}
use Rattle.chain_arena.specs.NewLinks.{AreBesideNew, IsEntryFor}

pub ok_apart : {A B : Type 0} (a : A) (b : B) → (let r : Result A B = Ok a in r ≡ Err b) → ⊥
ok_apart a b is = let h = is in cc

pub entry_for : {P I Gen W T : Type 0} (pointers : PointerKind P I Gen W) (may_reach : ℕ → Option ℕ → ℕ → ℕ → Type 0) (old mid arena : Links Gen T) (kind : InsertKind P I) (beside : Option I × Option I) (prev next : ℕ)
    → AreBesideNew pointers old kind beside → HasGrownFor may_reach pointers.greatest (entry_count old + 1) old mid → arena ≡ mid
    → nonzero_index prev ≡ option_map pointers.number beside.0 → nonzero_index next ≡ option_map pointers.number beside.1 → IsEntryFor pointers may_reach old kind arena prev next
entry_for pointers may_reach old mid arena kind beside prev next are grown same before after = record {
  grown = subst (HasGrownFor may_reach pointers.greatest (entry_count old + 1) old) (sym same) grown;
  before = before ∙ are.before;
  after = after ∙ are.after;
}
