-- Each document keeps its paragraphs, in order, under new pointers.
use Rattle.std.specs.Prelude.{◌≡◌, ℕ, List, Option, Some}
use Rattle.chain_laws.specs.Chains.{LinkMap}
use Rattle.arena_traits.specs.Entries.{ArenaView, ArenaState}
use Rattle.chain_lists.specs.Lists.{Item}
use Rattle.chain_renumbering.specs.Renumbering.{Moves, AreItemsMoved}
use Rattle.linked_lists.specs.declared.entry.Entry.{Entry}
use Rattle.linked_lists.specs.LinkedLists.{IsList}

module _ {A Gen T : Type 0} {view : A → ArenaView Gen (Entry T)} {entry : A → ℕ → Option (Gen × Entry T)} (state : (a : A) → ArenaState (view a) (entry a)) (interlinks : A → LinkMap) (old new : A) (move : Moves Gen) where
  -- The handle and the paragraphs of `d` have new pointers.
  pub record IsDocumentMoved (d : ℕ × Gen) (paragraphs : List (Item Gen T)) : Type 0 where
    pub handle : ℕ × Gen
    pub handle_moved : move d ≡ Some handle
    pub after : List (Item Gen T)
    pub paragraphs_moved : AreItemsMoved move paragraphs after
    pub document : IsList state interlinks new handle after

  abbrev pub MovesDocuments : Type 0
  MovesDocuments = (d : ℕ × Gen) (paragraphs : List (Item Gen T)) → IsList state interlinks old d paragraphs → IsDocumentMoved d paragraphs
