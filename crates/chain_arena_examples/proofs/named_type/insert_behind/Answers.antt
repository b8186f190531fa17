use Rattle.std.proofs.Common.{Result, Ok, Err, inl, inr, refl}
use Rattle.std.specs.Prelude.{IfOk}
use Rattle.arena_core.specs.declared.errors.ChainInsertionError.{ChainInsertionError}
use Rattle.arena_core.specs.declared.errors.ReallocationError.{ReallocationError}
use Rattle.arena_traits.specs.Growth.{RefusesOneMore}
use Rattle.chain_links.specs.ChainArena.{value_view}
use Rattle.chain_links.specs.Insertions.{IsInsertionResult}
use Rattle.chain_arena_examples.proofs.named_type.insert_behind.Goals as goal

inserted : {P : Type 0} (may : Type 0) (refuses : ReallocationError → Type 0) (done so : P → Type 0) (o : Result P ChainInsertionError) → IsInsertionResult may refuses done o → ((p : P) → done p → so p) → IfOk o so
inserted may refuses done so (Ok p) is then = then p is.1
inserted may refuses done so (Err e) is then = tt

pub returns-clause-behind : goal.returns-clause-behind
returns-clause-behind c = inserted _ (RefusesOneMore (value_view c.args.arena.now)) _ _ c.insert_reallocating.result c.insert_reallocating.ensures.outcome
    (λ q gained. (gained.0.pairs.pairs _ _).1 (inr (inl (refl, refl))))
