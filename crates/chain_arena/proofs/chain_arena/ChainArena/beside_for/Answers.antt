use Rattle.std.proofs.Common.{◌≡◌, ◌↔◌, ◌<◌, ℕ, Option, None, Some, refl, ap, sym, ◌∙◌, subst}
use Rattle.std.specs.Prelude.{IsSome}
use Rattle.std.specs.Option.{option_map}
use Rattle.arena_traits.specs.Arena.{IsValid, entry_count, next_index}
use Rattle.chain_laws.specs.Chains.{IsWellLinked, next_of, prev_of}
use Rattle.chain_links.specs.ChainArena.{entry, link_map}
use Rattle.chain_links.specs.Links.{links_view}
use Rattle.chain_links.proofs.ArenaInsertionLemmas.{next_index-links_view}
use Rattle.chain_arena.specs.Effects.{Links}
use Rattle.chain_arena.proofs.NewLinkLemmas.{Found, less_entries, returns_beside, next_found, prev_found, next_is, prev_is}
use Rattle.chain_arena.proofs.chain_arena.ChainArena.beside_for.Goals as goal

first_of_two : {X Y A B N : Type 0} → X ↔ (A × N) → Y ↔ B → (X × Y) ↔ (A × B × N)
first_of_two x y = ((λ h. let a = x.0 h.0 in (a.0, y.0 h.1, a.1)), (λ h. (x.1 (h.0, h.2), y.1 h.1)))

both_of_two : {X Y A B M N : Type 0} → X ↔ (A × M) → Y ↔ (B × N) → (X × Y) ↔ (A × B × M × N)
both_of_two x y = ((λ h. let a = x.0 h.0 in let b = y.0 h.1 in (a.0, b.0, a.1, b.1)), (λ h. (x.1 (h.0, h.2), y.1 (h.1, h.3))))

at_place : {A B : Type 0} {o : Option ℕ} {i j : ℕ} → i ≡ j → (A × B × (o ≡ Some i)) ↔ (A × B × (o ≡ Some j))
at_place same = ((λ h. (h.0, h.1, h.2 ∙ ap Some same)), (λ h. (h.0, h.1, h.2 ∙ sym (ap Some same))))

then : {A B C : Type 0} → A ↔ B → B ↔ C → A ↔ C
then f g = ((λ h. g.0 (f.0 h)), (λ h. f.1 (g.1 h)))

pub returns-in-Disconnected : goal.returns-in-Disconnected
returns-in-Disconnected g c = rw c.in-Disconnected.is (record {
  beside = record { some = (λ _. tt, λ _. refl); beside = λ _. record { before = refl; after = refl } };
  agree = subst (λ (x : Links _ _). IsWellLinked (link_map x)) c.self.view_is c.self.invariant.agree;
})

pub returns-in-SingleLinkCyclic : goal.returns-in-SingleLinkCyclic
returns-in-SingleLinkCyclic g c =
    let packed = g.P.Inx.InxKey.packed_number in
    let a = c.self.inside.arena in
    let next : entry_count (links_view packed a) < g.P.Inx.InxKey.greatest → option_map g.P.Inx.InxKey.number c.next_inx-i.result ≡ Some (next_index (links_view packed a)) = λ less. c.next_inx-i.ensures (less_entries packed a less) ∙ ap Some (sym (next_index-links_view packed a)) in
    rw (← c.self.view_is) (rw c.in-SingleLinkCyclic.is (record {
      beside = record { some = (λ _. tt, λ _. refl); beside = λ less. record { before = next less; after = next less } };
      agree = c.self.invariant.agree;
    }))

pub returns-in-ChainEnd : goal.returns-in-ChainEnd
returns-in-ChainEnd g c =
    let packed = g.P.Inx.InxKey.packed_number in
    let now = c.args.self.now in
    let i = (g.P.PtrKey.key c.in-ChainEnd.a).0 in
    let given = IsValid (entry now) (g.P.PtrKey.key c.in-ChainEnd.a) in
    let read = c.named.result.0 in
    let found : Found packed now i given read = (c.named.ensures.some, c.named.ensures.link) in
    let is = returns_beside g.P.Inx.InxKey.number _ _ _ _ (Some i) None c.after_end.result c.after_end.ensures (next_is packed now i given None read found) (λ _. ap Some c.named.ensures.index) (λ _. refl) in
    rw c.in-ChainEnd.is (record { beside = record { some = is.some; beside = λ _. is.beside }; agree = subst (λ (x : Links _ _). IsWellLinked (link_map x)) c.self.view_is c.self.invariant.agree })

pub returns-in-ChainEndInx : goal.returns-in-ChainEndInx
returns-in-ChainEndInx g c =
    let packed = g.P.Inx.InxKey.packed_number in
    let now = c.args.self.now in
    let i = g.P.Inx.InxKey.number c.in-ChainEndInx.a in
    let given = IsSome (entry now i) in
    let read = c.named_inx.result.0 in
    let found : Found packed now i given read = (c.named_inx.ensures.some, c.named_inx.ensures.link) in
    let is = returns_beside g.P.Inx.InxKey.number _ _ _ _ (Some i) None c.after_end-in-ChainEndInx.result c.after_end-in-ChainEndInx.ensures (next_is packed now i given None read found) (λ _. ap Some c.named_inx.ensures.index) (λ _. refl) in
    rw c.in-ChainEndInx.is (record { beside = record { some = is.some; beside = λ _. is.beside }; agree = subst (λ (x : Links _ _). IsWellLinked (link_map x)) c.self.view_is c.self.invariant.agree })

pub returns-in-ChainStart : goal.returns-in-ChainStart
returns-in-ChainStart g c =
    let packed = g.P.Inx.InxKey.packed_number in
    let now = c.args.self.now in
    let i = (g.P.PtrKey.key c.in-ChainStart.b).0 in
    let given = IsValid (entry now) (g.P.PtrKey.key c.in-ChainStart.b) in
    let read = c.named-in-ChainStart.result.0 in
    let found : Found packed now i given read = (c.named-in-ChainStart.ensures.some, c.named-in-ChainStart.ensures.link) in
    let is = returns_beside g.P.Inx.InxKey.number _ _ _ _ None (Some i) c.before_start.result c.before_start.ensures (prev_is packed now i given None read found) (λ _. refl) (λ _. ap Some c.named-in-ChainStart.ensures.index) in
    rw c.in-ChainStart.is (record { beside = record { some = is.some; beside = λ _. is.beside }; agree = subst (λ (x : Links _ _). IsWellLinked (link_map x)) c.self.view_is c.self.invariant.agree })

pub returns-in-ChainStartInx : goal.returns-in-ChainStartInx
returns-in-ChainStartInx g c =
    let packed = g.P.Inx.InxKey.packed_number in
    let now = c.args.self.now in
    let i = g.P.Inx.InxKey.number c.in-ChainStartInx.b in
    let given = IsSome (entry now i) in
    let read = c.named_inx-in-ChainStartInx.result.0 in
    let found : Found packed now i given read = (c.named_inx-in-ChainStartInx.ensures.some, c.named_inx-in-ChainStartInx.ensures.link) in
    let is = returns_beside g.P.Inx.InxKey.number _ _ _ _ None (Some i) c.before_start-in-ChainStartInx.result c.before_start-in-ChainStartInx.ensures (prev_is packed now i given None read found) (λ _. refl) (λ _. ap Some c.named_inx-in-ChainStartInx.ensures.index) in
    rw c.in-ChainStartInx.is (record { beside = record { some = is.some; beside = λ _. is.beside }; agree = subst (λ (x : Links _ _). IsWellLinked (link_map x)) c.self.view_is c.self.invariant.agree })

pub returns-in-NextTo : goal.returns-in-NextTo
returns-in-NextTo g c =
    let packed = g.P.Inx.InxKey.packed_number in
    let now = c.args.self.now in
    let i = (g.P.PtrKey.key c.in-NextTo.a).0 in
    let given = IsValid (entry now) (g.P.PtrKey.key c.in-NextTo.a) in
    let read = c.named-in-NextTo.result.0 in
    let found : Found packed now i given read = (c.named-in-NextTo.ensures.some, c.named-in-NextTo.ensures.link) in
    let is = returns_beside g.P.Inx.InxKey.number _ _ _ _ (Some i) (next_of (link_map now) i) c.after_link.result c.after_link.ensures found.0 (λ _. ap Some c.named-in-NextTo.ensures.index) (next_found packed now i given read found) in
    rw c.in-NextTo.is (record { beside = record { some = is.some; beside = λ _. is.beside }; agree = subst (λ (x : Links _ _). IsWellLinked (link_map x)) c.self.view_is c.self.invariant.agree })

pub returns-in-NextToInx : goal.returns-in-NextToInx
returns-in-NextToInx g c =
    let packed = g.P.Inx.InxKey.packed_number in
    let now = c.args.self.now in
    let i = g.P.Inx.InxKey.number c.in-NextToInx.a in
    let given = IsSome (entry now i) in
    let read = c.named_inx-in-NextToInx.result.0 in
    let found : Found packed now i given read = (c.named_inx-in-NextToInx.ensures.some, c.named_inx-in-NextToInx.ensures.link) in
    let is = returns_beside g.P.Inx.InxKey.number _ _ _ _ (Some i) (next_of (link_map now) i) c.after_link-in-NextToInx.result c.after_link-in-NextToInx.ensures found.0 (λ _. ap Some c.named_inx-in-NextToInx.ensures.index) (next_found packed now i given read found) in
    rw c.in-NextToInx.is (record { beside = record { some = is.some; beside = λ _. is.beside }; agree = subst (λ (x : Links _ _). IsWellLinked (link_map x)) c.self.view_is c.self.invariant.agree })

pub returns-in-PrevTo : goal.returns-in-PrevTo
returns-in-PrevTo g c =
    let packed = g.P.Inx.InxKey.packed_number in
    let now = c.args.self.now in
    let i = (g.P.PtrKey.key c.in-PrevTo.b).0 in
    let given = IsValid (entry now) (g.P.PtrKey.key c.in-PrevTo.b) in
    let read = c.named-in-PrevTo.result.0 in
    let found : Found packed now i given read = (c.named-in-PrevTo.ensures.some, c.named-in-PrevTo.ensures.link) in
    let is = returns_beside g.P.Inx.InxKey.number _ _ _ _ (prev_of (link_map now) i) (Some i) c.before_link.result c.before_link.ensures found.0 (prev_found packed now i given read found) (λ _. ap Some c.named-in-PrevTo.ensures.index) in
    rw c.in-PrevTo.is (record { beside = record { some = is.some; beside = λ _. is.beside }; agree = subst (λ (x : Links _ _). IsWellLinked (link_map x)) c.self.view_is c.self.invariant.agree })

pub returns-in-PrevToInx : goal.returns-in-PrevToInx
returns-in-PrevToInx g c =
    let packed = g.P.Inx.InxKey.packed_number in
    let now = c.args.self.now in
    let i = g.P.Inx.InxKey.number c.in-PrevToInx.b in
    let given = IsSome (entry now i) in
    let read = c.named_inx-in-PrevToInx.result.0 in
    let found : Found packed now i given read = (c.named_inx-in-PrevToInx.ensures.some, c.named_inx-in-PrevToInx.ensures.link) in
    let is = returns_beside g.P.Inx.InxKey.number _ _ _ _ (prev_of (link_map now) i) (Some i) c.before_link-in-PrevToInx.result c.before_link-in-PrevToInx.ensures found.0 (prev_found packed now i given read found) (λ _. ap Some c.named_inx-in-PrevToInx.ensures.index) in
    rw c.in-PrevToInx.is (record { beside = record { some = is.some; beside = λ _. is.beside }; agree = subst (λ (x : Links _ _). IsWellLinked (link_map x)) c.self.view_is c.self.invariant.agree })

pub returns-in-AtInterlink : goal.returns-in-AtInterlink
returns-in-AtInterlink g c =
    let packed = g.P.Inx.InxKey.packed_number in
    let now = c.args.self.now in
    let p = g.P.PtrKey.key c.in-AtInterlink.next_to in
    let q = g.P.PtrKey.key c.in-AtInterlink.prev_to in
    let i = p.0 in
    let j = q.0 in
    let first = IsValid (entry now) p in
    let second = IsValid (entry now) q in
    let found : Found packed now i first c.named-in-AtInterlink.result.0 = (c.named-in-AtInterlink.ensures.some, c.named-in-AtInterlink.ensures.link) in
    let other : Found packed now j second c.named-in-AtInterlink-2.result.0 = (c.named-in-AtInterlink-2.ensures.some, c.named-in-AtInterlink-2.ensures.link) in
    let is = returns_beside g.P.Inx.InxKey.number _ _ _ _ (Some i) (Some j) c.between.result c.between.ensures (then (first_of_two (next_is packed now i first (Some (g.P.Inx.InxKey.number c.named-in-AtInterlink-2.result.1)) c.named-in-AtInterlink.result.0 found) other.0) (at_place c.named-in-AtInterlink-2.ensures.index)) (λ _. ap Some c.named-in-AtInterlink.ensures.index) (λ _. ap Some c.named-in-AtInterlink-2.ensures.index) in
    rw c.in-AtInterlink.is (record { beside = record { some = is.some; beside = λ _. is.beside }; agree = subst (λ (x : Links _ _). IsWellLinked (link_map x)) c.self.view_is c.self.invariant.agree })

pub returns-in-AtInterlinkInx : goal.returns-in-AtInterlinkInx
returns-in-AtInterlinkInx g c =
    let packed = g.P.Inx.InxKey.packed_number in
    let now = c.args.self.now in
    let i = g.P.Inx.InxKey.number c.in-AtInterlinkInx.next_to in
    let j = g.P.Inx.InxKey.number c.in-AtInterlinkInx.prev_to in
    let first = IsSome (entry now i) in
    let second = IsSome (entry now j) in
    let found : Found packed now i first c.named_inx-in-AtInterlinkInx.result.0 = (c.named_inx-in-AtInterlinkInx.ensures.some, c.named_inx-in-AtInterlinkInx.ensures.link) in
    let other : Found packed now j second c.named_inx-in-AtInterlinkInx-2.result.0 = (c.named_inx-in-AtInterlinkInx-2.ensures.some, c.named_inx-in-AtInterlinkInx-2.ensures.link) in
    let is = returns_beside g.P.Inx.InxKey.number _ _ _ _ (Some i) (Some j) c.between-in-AtInterlinkInx.result c.between-in-AtInterlinkInx.ensures (then (first_of_two (next_is packed now i first (Some (g.P.Inx.InxKey.number c.named_inx-in-AtInterlinkInx-2.result.1)) c.named_inx-in-AtInterlinkInx.result.0 found) other.0) (at_place c.named_inx-in-AtInterlinkInx-2.ensures.index)) (λ _. ap Some c.named_inx-in-AtInterlinkInx.ensures.index) (λ _. ap Some c.named_inx-in-AtInterlinkInx-2.ensures.index) in
    rw c.in-AtInterlinkInx.is (record { beside = record { some = is.some; beside = λ _. is.beside }; agree = subst (λ (x : Links _ _). IsWellLinked (link_map x)) c.self.view_is c.self.invariant.agree })

pub returns-in-Bridge : goal.returns-in-Bridge
returns-in-Bridge g c =
    let packed = g.P.Inx.InxKey.packed_number in
    let now = c.args.self.now in
    let p = g.P.PtrKey.key c.in-Bridge.end in
    let q = g.P.PtrKey.key c.in-Bridge.start in
    let i = p.0 in
    let j = q.0 in
    let first = IsValid (entry now) p in
    let second = IsValid (entry now) q in
    let found : Found packed now i first c.named-in-Bridge.result.0 = (c.named-in-Bridge.ensures.some, c.named-in-Bridge.ensures.link) in
    let other : Found packed now j second c.named-in-Bridge-2.result.0 = (c.named-in-Bridge-2.ensures.some, c.named-in-Bridge-2.ensures.link) in
    let is = returns_beside g.P.Inx.InxKey.number _ _ _ _ (Some i) (Some j) c.bridge.result c.bridge.ensures (both_of_two (next_is packed now i first None c.named-in-Bridge.result.0 found) (prev_is packed now j second None c.named-in-Bridge-2.result.0 other)) (λ _. ap Some c.named-in-Bridge.ensures.index) (λ _. ap Some c.named-in-Bridge-2.ensures.index) in
    rw c.in-Bridge.is (record { beside = record { some = is.some; beside = λ _. is.beside }; agree = subst (λ (x : Links _ _). IsWellLinked (link_map x)) c.self.view_is c.self.invariant.agree })

pub returns-in-BridgeInx : goal.returns-in-BridgeInx
returns-in-BridgeInx g c =
    let packed = g.P.Inx.InxKey.packed_number in
    let now = c.args.self.now in
    let i = g.P.Inx.InxKey.number c.in-BridgeInx.end in
    let j = g.P.Inx.InxKey.number c.in-BridgeInx.start in
    let first = IsSome (entry now i) in
    let second = IsSome (entry now j) in
    let found : Found packed now i first c.named_inx-in-BridgeInx.result.0 = (c.named_inx-in-BridgeInx.ensures.some, c.named_inx-in-BridgeInx.ensures.link) in
    let other : Found packed now j second c.named_inx-in-BridgeInx-2.result.0 = (c.named_inx-in-BridgeInx-2.ensures.some, c.named_inx-in-BridgeInx-2.ensures.link) in
    let is = returns_beside g.P.Inx.InxKey.number _ _ _ _ (Some i) (Some j) c.bridge-in-BridgeInx.result c.bridge-in-BridgeInx.ensures (both_of_two (next_is packed now i first None c.named_inx-in-BridgeInx.result.0 found) (prev_is packed now j second None c.named_inx-in-BridgeInx-2.result.0 other)) (λ _. ap Some c.named_inx-in-BridgeInx.ensures.index) (λ _. ap Some c.named_inx-in-BridgeInx-2.ensures.index) in
    rw c.in-BridgeInx.is (record { beside = record { some = is.some; beside = λ _. is.beside }; agree = subst (λ (x : Links _ _). IsWellLinked (link_map x)) c.self.view_is c.self.invariant.agree })
