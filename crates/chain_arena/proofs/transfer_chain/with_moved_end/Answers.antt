use Rattle.std.proofs.Common.{◌≡◌, ℕ, List, [], ◌∷◌, ◌++◌, None, Some, sym, ap, ◌∙◌}
use Rattle.std.specs.Option.{option_map}
use Rattle.chain_laws.specs.Chains.{first_or}
use Rattle.chain_laws.proofs.ListLemmas.Members.{last_or-append}
use Rattle.chain_arena.proofs.transfer_chain.with_moved_end.Goals as goal

first_stays : (ys : List ℕ) (a q : ℕ) → Some a ≡ first_or ys None → Some a ≡ first_or (ys ++ q ∷ []) None
first_stays [] a q some = absurd (cc)
first_stays (y ∷ ys) a q some = some

pub returns-else-is_back : goal.returns-else-is_back
returns-else-is_back g c ys ends =
    let number = g.I.InxKey.number in
    let was = sym (ap (option_map (λ e. number e.0)) c.in-Some.is) in
    rw (c.if-is_back.false) (
      first_stays ys _ (number c.args.i) (was ∙ ends.0),
      sym (last_or-append ys (number c.args.i ∷ []) None),
    )
