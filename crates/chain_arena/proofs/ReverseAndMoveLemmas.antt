-- Effects of reversals and moves.
use Rattle.std.proofs.Common.{◌≡◌, ◌≢◌, ◌↔◌, ℕ, Option, None, Some, refl, ap, sym, ◌∙◌, subst}
use Rattle.std.specs.Prelude.{is_some}
use Rattle.chain_laws.specs.Chains.{LinkMap, Interlinks, IsWellLinked, HasLink}
use Rattle.chain_laws.specs.MoveAfter.{with_move_after, MovesAfter}
use Rattle.chain_laws.specs.Reversals.{with_turns, Reverses}
use Rattle.chain_laws.specs.Splices.{with_splice, Splices}
use Rattle.chain_laws.specs.Walks.{IsWalk}
use Rattle.chain_laws.proofs.MoveAfterLemmas.{move_agrees, move_moves}
use Rattle.chain_laws.proofs.ReversalLemmas.Turns.{reversal_agrees}
use Rattle.chain_laws.proofs.ReversalLemmas.Chains.{reversal_reverses}
use Rattle.chain_laws.proofs.SpliceLemmas.Chains.{splice_splices}
use Rattle.chain_laws.proofs.SpliceLemmas.Interlinks.{splice_agrees}
use Rattle.chain_laws.proofs.WalkLemmas.Members.{walks_ahead}
use Rattle.arena_traits.specs.Arena.{Arena}
use Rattle.arena_traits.specs.Entries.{view_of}
use Rattle.chain_links.specs.CallEffects.{IsReversed, IsMovedAfter, IsSpliced}
use Rattle.chain_links.specs.ChainArena.{LinkView, link_map, values_of, value_state, with_link_map, interlinks_of}
use Rattle.chain_links.proofs.ArenaInsertionLemmas.{slots-within}
use Rattle.chain_arena.specs.Effects.{IsReversal, IsMove, IsSplice}
use Rattle.chain_linking.specs.ChainReversals.{walk_at}
use Rattle.chain_linking.proofs.LinkWriteLemmas.{FitsLinks, FitsLinks-link_map, link_map-with_link_map, values_of-with_link_map}
use Rattle.chain_linking.proofs.ReversalLemmas.{FitsLinks-with_turns}

alike : (left right : LinkMap) (i : ℕ) → HasLink left i ↔ HasLink right i → is_some (left i) ≡ is_some (right i)
alike left right i same = by (left i) refl (right i) refl
  where
    by : (o : Option Interlinks) → left i ≡ o → (p : Option Interlinks) → right i ≡ p → is_some (left i) ≡ is_some (right i)
    by None none None is_none = ap is_some none ∙ sym (ap is_some is_none)
    by None none (Some m) is = absurd (let h = sym none ∙ (same.1 (record { link = m; links = is })).links in cc)
    by (Some l) is None none = absurd (let h = sym none ∙ (same.0 (record { link = l; links = is })).links in cc)
    by (Some l) is (Some m) was = ap is_some is ∙ sym (ap is_some was)

module _ {Gen T : Type 0} (a b : Arena Gen (LinkView T)) where
  module _ (interlinks : LinkMap) (fits : FitsLinks interlinks a) (is : b ≡ with_link_map a interlinks) where
    reports : link_map b ≡ interlinks
    reports = ap (λ (y : Arena Gen (LinkView T)). link_map y) is ∙ link_map-with_link_map a interlinks fits

    values : values_of b ≡ values_of a
    values = ap (λ (y : Arena Gen (LinkView T)). values_of y) is ∙ values_of-with_link_map a interlinks fits

  module _ (i : ℕ) (is : IsReversal a i b) (agrees : IsWellLinked (link_map a)) (valid : HasLink (link_map a) i) where
    is_walk : IsWalk (link_map a) i (walk_at a i)
    is_walk = walks_ahead (link_map a) _ i agrees (slots-within interlinks_of a.slots) valid

    reversal_reports : link_map b ≡ with_turns (link_map a) (walk_at a i)
    reversal_reports = reports (with_turns (link_map a) (walk_at a i)) (FitsLinks-with_turns a (link_map a) (walk_at a i) (FitsLinks-link_map a)) is

    pub agrees_reversal : IsWellLinked (link_map b)
    agrees_reversal = subst IsWellLinked (sym reversal_reports) (reversal_agrees (link_map a) i (walk_at a i) agrees is_walk)

    pub reversed : IsReversed value_state link_map a b i
    reversed = record {
      walk = walk_at a i;
      is_walk = is_walk;
      turned = reversal_reports;
      chains = subst (λ (m : LinkMap). Reverses (link_map a) m i) (sym reversal_reports) (reversal_reverses (link_map a) i (walk_at a i) is_walk);
      view_after = ap (λ (x : Arena Gen T). view_of x) (values (with_turns (link_map a) (walk_at a i)) (FitsLinks-with_turns a (link_map a) (walk_at a i) (FitsLinks-link_map a)) is);
    }

  module _ (p q : ℕ) (is : IsMove a p q b) (agrees : IsWellLinked (link_map a)) (first : HasLink (link_map a) p) (second : HasLink (link_map a) q) (apart : p ≢ q) where
    moves : MovesAfter (link_map a) (with_move_after (link_map a) p q) p q
    moves = move_moves (link_map a) p q agrees first second apart

    move_fits : FitsLinks (with_move_after (link_map a) p q) a
    move_fits i = alike (with_move_after (link_map a) p q) (link_map a) i (moves.links i) ∙ FitsLinks-link_map a i

    move_reports : link_map b ≡ with_move_after (link_map a) p q
    move_reports = reports (with_move_after (link_map a) p q) move_fits is

    pub agrees_move : IsWellLinked (link_map b)
    agrees_move = subst IsWellLinked (sym move_reports) (move_agrees (link_map a) p q agrees first second apart)

    pub moved : IsMovedAfter value_state link_map a b p q
    moved = record {
      moved = move_reports;
      chains = subst (λ (m : LinkMap). MovesAfter (link_map a) m p q) (sym move_reports) moves;
      view_after = ap (λ (x : Arena Gen T). view_of x) (values (with_move_after (link_map a) p q) move_fits is);
    }

  module _ (p first last : ℕ) (is : IsSplice a p first last b) (agrees : IsWellLinked (link_map a)) (valid_p : HasLink (link_map a) p) (valid_first : HasLink (link_map a) first) (valid_last : HasLink (link_map a) last) (apart : p ≢ last) where
    splices : Splices (link_map a) (with_splice (link_map a) p first last) p first last
    splices = splice_splices (link_map a) p first last agrees valid_p valid_first valid_last apart

    splice_fits : FitsLinks (with_splice (link_map a) p first last) a
    splice_fits i = alike (with_splice (link_map a) p first last) (link_map a) i (splices.links i) ∙ FitsLinks-link_map a i

    splice_reports : link_map b ≡ with_splice (link_map a) p first last
    splice_reports = reports (with_splice (link_map a) p first last) splice_fits is

    pub agrees_splice : IsWellLinked (link_map b)
    agrees_splice = subst IsWellLinked (sym splice_reports) (splice_agrees (link_map a) p first last agrees valid_p valid_first valid_last apart)

    pub spliced : IsSpliced value_state link_map a b p first last
    spliced = record {
      spliced = splice_reports;
      chains = subst (λ (m : LinkMap). Splices (link_map a) m p first last) (sym splice_reports) splices;
      view_after = ap (λ (x : Arena Gen T). view_of x) (values (with_splice (link_map a) p first last) splice_fits is);
    }
