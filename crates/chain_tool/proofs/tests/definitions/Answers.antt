use Rattle.std.proofs.Common.{◌≡◌, ℕ, List, [], ◌∷◌, None, Some, ap, refl}
use Rattle.std.specs.Prelude.{codes}
use Rattle.std.specs.Option.{option_map, option_zip}
use Rattle.chain_laws.specs.declared.insert_kind.InsertKind.TheVariants.{ChainEnd, NextToInx, BridgeInx}
use Rattle.chain_arena.specs.declared.calls.Call.TheVariants.{Insert, InsertWithin, Remove, RemoveInx, DrainChain}
use Rattle.chain_commands.specs.declared.command.Command.TheVariants.{Change, Arrange, Transfer}
use Rattle.chain_commands.specs.Commands.{line_with, by_either}
use Rattle.chain_commands.specs.Transcripts.{AreComplete, by_line_feed, by_the_end}
use Rattle.chain_commands.specs.Words.{index_named, generation_of}
use Rattle.chain_tool.proofs.tests.definitions.Goals as goal

none_complete : (lines : List (List ℕ)) → AreComplete (codes "add alone 2") (Some (codes "5")) lines → lines ≡ []
none_complete lines by_line_feed = refl
none_complete lines (by_the_end ended) = cc

pub returns : goal.returns
unfolding index_named generation_of
returns c = record {
  lines = (refl, refl, refl, refl, refl, refl);
  words = (refl, refl);
  numbers = (refl, refl, refl, refl, refl, refl);
  pointers = (refl, refl, refl, refl, refl);
  insertions = (
    refl,
    refl,
    λ p is. ap (λ o. line_with (option_map (λ a. Change (Insert a.0 a.1)) (option_zip (option_map ChainEnd o) (Some 7)))) is,
    λ p is. ap (λ o. line_with (option_map (λ a. Change (InsertWithin a.0 a.1)) (option_zip (option_map NextToInx o) (Some 7)))) is,
    λ i j is_i is_j. (λ t. line_with (option_map (λ a. Change (Insert a.0 a.1)) (option_zip (option_map (λ x. BridgeInx x.0 x.1) (option_zip (is_i t) (is_j t))) (Some 7)))),
    refl,
  );
  removals = (
    λ p is. ap (λ o. line_with (option_map Change (by_either Remove RemoveInx o None))) is,
    λ i is. ap (λ o. line_with (option_map Change (by_either Remove RemoveInx None o))) is,
    λ p is. ap (λ o. line_with (option_map (λ a. Change (DrainChain a.0 a.1)) (option_zip o (Some 3)))) is,
    refl,
  );
  orders = (
    λ p q is_p is_q. (λ t. line_with (option_map Arrange (option_map (λ x. x.0 ∷ x.1) (option_zip (is_q t) (option_map (λ x. x.0 ∷ x.1) (option_zip (is_p t) (Some []))))))),
    refl,
    refl,
  );
  others = (refl, refl, refl, refl, refl, λ p is. ap (λ o. line_with (option_map Transfer o)) is, refl, refl, refl, refl);
  complete = (none_complete, by_the_end refl);
}
