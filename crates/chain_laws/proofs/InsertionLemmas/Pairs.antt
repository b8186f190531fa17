-- Interlinks after an insertion: the new link is between two, and they still agree.
use Rattle.std.specs.Prelude.{◌≡◌, ◌≢◌, ◌↔◌, ℕ, ◌⊎◌, Option, None, Some}
use Rattle.std.proofs.Common.{sym, refl, ap, ◌∙◌, inl, inr, ⊎_elim}
use Rattle.chain_laws.specs.Chains.{LinkMap, HasLink, IsWellLinked, prev_in, next_in, prev_of, next_of}
use Rattle.chain_laws.specs.Joins.{with_neighbors, with_lone}
use Rattle.chain_laws.specs.declared.insert_kind.InsertKind.{InsertKind}
use Rattle.chain_laws.specs.declared.insert_kind.InsertKind.TheVariants.{Disconnected, SingleLinkCyclic, ChainEnd, ChainEndInx, ChainStart, ChainStartInx, NextTo, NextToInx, PrevTo, PrevToInx, AtInterlink, AtInterlinkInx, Bridge, BridgeInx}
use Rattle.chain_laws.specs.Insertions.{with_insertion, MayInsert, link_before, link_after, IsInsertPosition, KindGivesAPosition, InsertionAgrees, InsertionInPairs, InsertionIsDeterminedByPairs}
use Rattle.chain_laws.proofs.InterlinkLemmas.Inverses.{altered, altered-same, altered-other, one_some, not_both_ways}
use Rattle.chain_laws.proofs.ChainLemmas.LinkedLists.{next_valid, prev_valid}
use Rattle.chain_laws.proofs.InterlinkLemmas.Linked.{IsValidAt, IsValidAt-Some, put_at, next_of-linked, prev_of-linked, HasLink-linked}
use Rattle.chain_laws.proofs.JoinLemmas.LoneLinks.{next_of-with_lone, prev_of-with_lone, HasLink-with_lone}
use Rattle.chain_laws.proofs.InterlinkLemmas.Skips.{names_or_not}
use Rattle.chain_laws.proofs.InterlinkLemmas.Puts.{Puts, IsOpenPlace, puts_pairs, puts_undo}
use Rattle.chain_laws.proofs.ChainLemmas.Determinacy.{pairs_decide}

pub put_at-same : (f : ℕ → Option ℕ) (u o : Option ℕ) (j : ℕ) → u ≡ Some j → put_at f u o j ≡ o
put_at-same f None o j e = absurd (cc)
put_at-same f (Some i) o j e = altered-same f i o j (sym (one_some e))

pub put_at-other : (f : ℕ → Option ℕ) (u o : Option ℕ) (j : ℕ) → u ≢ Some j → put_at f u o j ≡ f j
put_at-other f None o j ne = refl
put_at-other f (Some i) o j ne = altered-other f i o j (λ e. ne (ap Some (sym e)))

pub free_invalid : (link_map : LinkMap) (q : ℕ) → link_map q ≡ None → HasLink link_map q → ⊥
free_invalid link_map q free valid = let links = sym free ∙ valid.links in cc

abbrev pub appended : LinkMap → ℕ → Option ℕ → LinkMap
appended link_map q u = with_neighbors (with_lone link_map q) u (Some q)

pub HasLink-appended : (link_map : LinkMap) (q : ℕ) (u : Option ℕ) (i : ℕ) → HasLink (appended link_map q u) i ↔ (HasLink link_map i ⊎ (i ≡ q))
HasLink-appended link_map q u i =
    let outer = HasLink-linked (with_lone link_map q) u (Some q) i in
    let inner = HasLink-with_lone link_map q i in
    (λ v. inner.0 (outer.0 v), λ v. outer.1 (inner.1 v))

pub HasLink-inserted : (link_map : LinkMap) (q : ℕ) (u v : Option ℕ) (i : ℕ) → HasLink (with_insertion link_map q u v) i ↔ (HasLink link_map i ⊎ (i ≡ q))
HasLink-inserted link_map q u v i =
    let outer = HasLink-linked (appended link_map q u) (Some q) v i in
    let inner = HasLink-appended link_map q u i in
    (λ w. inner.0 (outer.0 w), λ w. outer.1 (inner.1 w))

pub record IsBetween (link_map : LinkMap) (q : ℕ) (u v : Option ℕ) : Type 0 where
  pub valid_before : (i : ℕ) → u ≡ Some i → HasLink link_map i ⊎ (i ≡ q)
  pub valid_after : (i : ℕ) → v ≡ Some i → HasLink link_map i ⊎ (i ≡ q)
  pub forward : IsOpenPlace (next_of link_map) q u v
  pub back : IsOpenPlace (prev_of link_map) q v u

pub next_puts : (link_map : LinkMap) (q : ℕ) (u v : Option ℕ) → link_map q ≡ None → IsBetween link_map q u v
    → Puts (next_of link_map) (next_of (with_insertion link_map q u v)) q u v
next_puts link_map q u v free between =
    record {
      here = outer q ∙ altered-same (next_of (appended link_map q u)) q v q refl;
      before = λ j ne at_u. outer j ∙ altered-other (next_of (appended link_map q u)) q v j ne ∙ inner j
          ∙ put_at-same (next_of (with_lone link_map q)) u (Some q) j at_u;
      elsewhere = λ j ne not_u. outer j ∙ altered-other (next_of (appended link_map q u)) q v j ne ∙ inner j
          ∙ put_at-other (next_of (with_lone link_map q)) u (Some q) j not_u ∙ next_of-with_lone link_map q free j;
    }
  where
    outer : (j : ℕ) → next_of (with_insertion link_map q u v) j ≡ altered (next_of (appended link_map q u)) q v j
    outer j = next_of-linked (appended link_map q u) (Some q) v j (IsValidAt-Some (appended link_map q u) q ((HasLink-appended link_map q u q).1 (inr refl)))

    inner : (j : ℕ) → next_of (appended link_map q u) j ≡ put_at (next_of (with_lone link_map q)) u (Some q) j
    inner j = next_of-linked (with_lone link_map q) u (Some q) j (λ i e. (HasLink-with_lone link_map q i).1 (between.valid_before i e))

pub prev_puts : (link_map : LinkMap) (q : ℕ) (u v : Option ℕ) → link_map q ≡ None → IsBetween link_map q u v
    → Puts (prev_of link_map) (prev_of (with_insertion link_map q u v)) q v u
prev_puts link_map q u v free between =
    record {
      here = outer q ∙ ⊎_elim
          (λ at_v. put_at-same (prev_of (appended link_map q u)) v (Some q) q at_v ∙ sym (between.back.itself at_v))
          (λ not_v. put_at-other (prev_of (appended link_map q u)) v (Some q) q not_v ∙ inner q ∙ altered-same (prev_of (with_lone link_map q)) q u q refl)
          (names_or_not v q);
      before = λ j ne at_v. outer j ∙ put_at-same (prev_of (appended link_map q u)) v (Some q) j at_v;
      elsewhere = λ j ne not_v. outer j ∙ put_at-other (prev_of (appended link_map q u)) v (Some q) j not_v ∙ inner j
          ∙ altered-other (prev_of (with_lone link_map q)) q u j ne ∙ prev_of-with_lone link_map q free j;
    }
  where
    outer : (j : ℕ) → prev_of (with_insertion link_map q u v) j ≡ put_at (prev_of (appended link_map q u)) v (Some q) j
    outer j = prev_of-linked (appended link_map q u) (Some q) v j (λ i e. (HasLink-appended link_map q u i).1 (between.valid_after i e))

    inner : (j : ℕ) → prev_of (appended link_map q u) j ≡ altered (prev_of (with_lone link_map q)) q u j
    inner j = prev_of-linked (with_lone link_map q) u (Some q) j (IsValidAt-Some (with_lone link_map q) q ((HasLink-with_lone link_map q q).1 (inr refl)))

capacity_between : (link_map : LinkMap) (q : ℕ) (u v : Option ℕ) → link_map q ≡ None → IsValidAt link_map u → IsValidAt link_map v
    → ((i j : ℕ) → u ≡ Some i → next_of link_map i ≡ Some j → v ≡ Some j)
    → ((i j : ℕ) → v ≡ Some i → prev_of link_map i ≡ Some j → u ≡ Some j) → IsBetween link_map q u v
capacity_between link_map q u v free valid_u valid_v after before =
    record {
      valid_before = λ i e. inl (valid_u i e);
      valid_after = λ i e. inl (valid_v i e);
      forward = record { free = ap next_in free; only = after; itself = λ e. absurd (free_invalid link_map q free (valid_u q e)) };
      back = record { free = ap prev_in free; only = before; itself = λ e. absurd (free_invalid link_map q free (valid_v q e)) };
    }

pub position_between : (link_map : LinkMap) (q : ℕ) (u v : Option ℕ) → IsWellLinked link_map → link_map q ≡ None → IsInsertPosition link_map q u v → IsBetween link_map q u v
position_between link_map q None None agrees free position =
    capacity_between link_map q None None free (λ i e. absurd (cc)) (λ i e. absurd (cc)) (λ i j e n. absurd (cc)) (λ i j e p. absurd (cc))
position_between link_map q (Some a) None agrees free position =
    capacity_between link_map q (Some a) None free
    (IsValidAt-Some link_map a position.0)
    (λ i e. absurd (cc))
    (λ i j e n. absurd (not_both_ways (next_of link_map a) j position.1 (ap (next_of link_map) (one_some e) ∙ n)))
    (λ i j e p. absurd (cc))
position_between link_map q None (Some b) agrees free position =
    capacity_between link_map q None (Some b) free
    (λ i e. absurd (cc))
    (IsValidAt-Some link_map b position.0)
    (λ i j e n. absurd (cc))
    (λ i j e p. absurd (not_both_ways (prev_of link_map b) j position.1 (ap (prev_of link_map) (one_some e) ∙ p)))
position_between link_map q (Some a) (Some b) agrees free (inl pair) =
    let back = (agrees.both a b).0 pair in
    capacity_between link_map q (Some a) (Some b) free
    (IsValidAt-Some link_map a (next_valid link_map a b pair))
    (IsValidAt-Some link_map b (prev_valid link_map b a back))
    (λ i j e n. sym pair ∙ ap (next_of link_map) (one_some e) ∙ n)
    (λ i j e p. sym back ∙ ap (prev_of link_map) (one_some e) ∙ p)
position_between link_map q (Some a) (Some b) agrees free (inr (inl ends)) =
    capacity_between link_map q (Some a) (Some b) free
    (IsValidAt-Some link_map a ends.valid_end)
    (IsValidAt-Some link_map b ends.valid_start)
    (λ i j e n. absurd (not_both_ways (next_of link_map a) j ends.end (ap (next_of link_map) (one_some e) ∙ n)))
    (λ i j e p. absurd (not_both_ways (prev_of link_map b) j ends.start (ap (prev_of link_map) (one_some e) ∙ p)))
position_between link_map q (Some a) (Some b) agrees free (inr (inr ring)) =
    record {
      valid_before = λ i e. inr (sym (one_some e) ∙ ring.0);
      valid_after = λ i e. inr (sym (one_some e) ∙ ring.1);
      forward = record {
        free = ap next_in free;
        only = λ i j e n. absurd (not_both_ways (next_of link_map q) j (ap next_in free) (ap (next_of link_map) (sym ring.0 ∙ one_some e) ∙ n));
        itself = λ e. ap Some ring.1;
      };
      back = record {
        free = ap prev_in free;
        only = λ i j e p. absurd (not_both_ways (prev_of link_map q) j (ap prev_in free) (ap (prev_of link_map) (sym ring.1 ∙ one_some e) ∙ p));
        itself = λ e. ap Some ring.0;
      };
    }

pub inserted_agrees : InsertionAgrees
inserted_agrees link_map q u v agrees free position =
    let between = position_between link_map q u v agrees free position in
    record {
      both = puts_undo (next_of link_map) (prev_of link_map) (next_of (with_insertion link_map q u v)) (prev_of (with_insertion link_map q u v)) q u v
          agrees.both between.forward between.back (next_puts link_map q u v free between) (prev_puts link_map q u v free between);
    }

pub inserted_in_pairs : InsertionInPairs
inserted_in_pairs link_map q u v agrees free position =
    let between = position_between link_map q u v agrees free position in
    record {
      pairs = puts_pairs (next_of link_map) (next_of (with_insertion link_map q u v)) q u v between.forward (next_puts link_map q u v free between);
      links = HasLink-inserted link_map q u v;
    }

pub insertion_is_determined_by_pairs : InsertionIsDeterminedByPairs
insertion_is_determined_by_pairs old new q u v agrees agrees_new free position inserts =
    let that = inserted_in_pairs old q u v agrees free position in
    pairs_decide new (with_insertion old q u v) agrees_new (inserted_agrees old q u v agrees free position)
    (λ i. (λ w. (that.links i).1 ((inserts.links i).0 w), λ w. (inserts.links i).1 ((that.links i).0 w)))
    (λ i j. (λ e. (that.pairs i j).1 ((inserts.pairs i j).0 e), λ e. (inserts.pairs i j).1 ((that.pairs i j).0 e)))

pub position_after : (link_map : LinkMap) (a q : ℕ) (v : Option ℕ) → HasLink link_map a → next_of link_map a ≡ v → IsInsertPosition link_map q (Some a) v
position_after link_map a q None valid is = (valid, is)
position_after link_map a q (Some b) valid is = inl is

pub position_before : (link_map : LinkMap) (b q : ℕ) (u : Option ℕ) → IsWellLinked link_map → HasLink link_map b → prev_of link_map b ≡ u → IsInsertPosition link_map q u (Some b)
position_before link_map b q None agrees valid is = (valid, is)
position_before link_map b q (Some a) agrees valid is = inl ((agrees.both a b).1 is)

module _ {P I : Type 0} (place : P → ℕ) (number : I → ℕ) (is_valid : P → Type 0) (is_occupied : I → Type 0) (link_map : LinkMap)
    (at : (p : P) → is_valid p → HasLink link_map (place p)) (at_inx : (i : I) → is_occupied i → HasLink link_map (number i)) where
  pub kind_position : (kind : InsertKind P I) (q : ℕ) → IsWellLinked link_map → MayInsert place number is_valid is_occupied link_map kind
      → IsInsertPosition link_map q (link_before place number link_map kind q) (link_after place number link_map kind q)
  kind_position Disconnected q agrees may = tt
  kind_position SingleLinkCyclic q agrees may = inr (inr (refl, refl))
  kind_position (ChainEnd a) q agrees may = (at a may.0, may.1)
  kind_position (ChainEndInx a) q agrees may = (at_inx a may.0, may.1)
  kind_position (ChainStart b) q agrees may = (at b may.0, may.1)
  kind_position (ChainStartInx b) q agrees may = (at_inx b may.0, may.1)
  kind_position (NextTo a) q agrees may = position_after link_map (place a) q (next_of link_map (place a)) (at a may) refl
  kind_position (NextToInx a) q agrees may = position_after link_map (number a) q (next_of link_map (number a)) (at_inx a may) refl
  kind_position (PrevTo b) q agrees may = position_before link_map (place b) q (prev_of link_map (place b)) agrees (at b may) refl
  kind_position (PrevToInx b) q agrees may = position_before link_map (number b) q (prev_of link_map (number b)) agrees (at_inx b may) refl
  kind_position (AtInterlink a b) q agrees may = inl may.2
  kind_position (AtInterlinkInx a b) q agrees may = inl may.2
  kind_position (Bridge a b) q agrees may = inr (inl (record { valid_end = at a may.0; valid_start = at b may.1; end = may.2; start = may.3 }))
  kind_position (BridgeInx a b) q agrees may = inr (inl (record { valid_end = at_inx a may.0; valid_start = at_inx b may.1; end = may.2; start = may.3 }))

pub kind_gives_a_position : (P I : Type 0) → KindGivesAPosition P I
kind_gives_a_position P I place number link_map kind q agrees may =
    kind_position place number (λ p. HasLink link_map (place p)) (λ i. HasLink link_map (number i)) link_map (λ p has. has) (λ i has. has) kind q agrees may
