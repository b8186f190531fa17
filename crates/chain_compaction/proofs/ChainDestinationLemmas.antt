-- The walk that gives the links of a chain their destinations: its beginning, its steps and its end.
use Rattle.std.proofs.Common.{◌≡◌, ◌≢◌, ℕ, suc, ◌+◌, ◌*◌, ◌<◌, ◌≤◌, ◌⊎◌, inl, inr, List, [], ◌∷◌, ◌++◌, length, map, Option, None, Some, refl, sym, ap, ap₂, ◌∙◌, subst, append_assoc, arith}
use Rattle.std.specs.Prelude.{◌==◌, if◌then◌else◌}
use Rattle.std.specs.Option.{option_map, option_and_then}
use Rattle.std.specs.List.{FoldsTo, range_with_len}
use Rattle.std.proofs.lemmas.List.{length-append, map-append, append-nil}
use Rattle.std.proofs.Math.Decide.{ℕ_discrete}
use mathlib.Core.Path.{fun_ext}
use Rattle.chain_laws.specs.Chains.{LinkMap, Interlinks, Chain, linear, cyclic, items, IsMember, AreDistinct, IsChain, HasLink, AreLinked, first_or, last_or, prev_in, next_in, next_of}
use Rattle.chain_laws.specs.Walks.{step_forward}
use Rattle.chain_laws.specs.Arrangements.{place_from, place_in}
use Rattle.chain_laws.proofs.ListLemmas.Members.{IsMember-right, IsMember-middle, IsMember-parts, AreDistinct-apart, last_or-append}
use Rattle.chain_laws.proofs.ChainLemmas.LinkedLists.{AreLinked-at}
use Rattle.chain_laws.proofs.ChainLemmas.Uniqueness.{chain_once}
use Rattle.chain_laws.proofs.InterlinkLemmas.Inverses.{if_same, if_other, one_some}
use Rattle.chain_laws.proofs.RenamingLemmas.Positions.{place-last, place-before_last, place-append, place-same}
use Rattle.chain_laws.proofs.RenamingLemmas.ChainRuns.{range_with_len-append}
use Rattle.arena_traits.specs.Arena.{Arena, slot_at}
use Rattle.arena_base.specs.DetachedSlots.{DetachedView, detached_with_value}
use Rattle.chain_links.specs.declared.links.RawLink.{RawLink}
use Rattle.chain_links.specs.ChainArena.{LinkView, on_value, ptr_at}
use Rattle.chain_links.specs.Links.{link_view, pair_view, destination_of, destination_at}
use Rattle.chain_compaction.specs.DetachedLinks.{body_interlinks, link_map_in, IsWork}
use Rattle.chain_compaction.specs.Layouts.{ReportsMoves}
use Rattle.chain_compaction.specs.Destinations.{renamed_link, number_after, AreNumbered, IsRelinkedAt, IsRingClosed, AreRelinked, CanNumber, IsChainNumbered}
use Rattle.chain_compaction.proofs.DetachedLinkLemmas.{work-none, work-more}
use Rattle.chain_compaction.proofs.LinkRewriteLemmas.{viewed_as, destination_written, written_own, viewed_at, relinked_none, relinked_as, relinked_more, relinked_over}

not_first : (ys : List ℕ) (i z : ℕ) (ws : List ℕ) (start : ℕ) → AreDistinct (ys ++ i ∷ z ∷ ws) → first_or (ys ++ i ∷ z ∷ ws) None ≡ Some start → z ≢ start
not_first [] i z ws start once first s = let same : i ≡ start = cc in once.0 (inl (s ∙ sym same))
not_first (y ∷ ys) i z ws start once first s =
    let same : y ≡ start = cc in
    once.0 (subst (IsMember (ys ++ i ∷ z ∷ ws)) (s ∙ sym same) (IsMember-right ys (i ∷ z ∷ ws) z (inr (inl refl))))

step_to : (start : ℕ) (ys : List ℕ) (i : ℕ) (zs : List ℕ) (after : Option ℕ) → AreDistinct (ys ++ i ∷ zs) → first_or (ys ++ i ∷ zs) None ≡ Some start
    → (after ≡ None) ⊎ (after ≡ Some start) → step_forward start (first_or zs after) ≡ first_or zs None
step_to start ys i [] after once first (inl e) = ap (step_forward start) e
step_to start ys i [] after once first (inr e) = ap (step_forward start) e ∙ if_same start start None (Some start) refl
step_to start ys i (z ∷ ws) after once first e = if_other z start None (Some z) (not_first ys i z ws start once first)

pub chain_continues : (link_map : LinkMap) (c : Chain) (start : ℕ) (ys : List ℕ) (i : ℕ) (zs : List ℕ) → IsChain link_map c → first_or (items c) None ≡ Some start → items c ≡ ys ++ i ∷ zs
    → step_forward start (next_of link_map i) ≡ first_or zs None
chain_continues link_map (linear xs) start ys i zs h first parts =
    let stored = subst (λ (l : List ℕ). AreLinked link_map None l None) parts h.2 in
    ap (λ (o : Option Interlinks). step_forward start (next_in o)) (AreLinked-at link_map None ys zs None i stored)
    ∙ step_to start ys i zs None (subst AreDistinct parts h.1) (ap (λ (l : List ℕ). first_or l None) (sym parts) ∙ first) (inl refl)
chain_continues link_map (cyclic xs) start ys i zs h first parts =
    let stored = subst (λ (l : List ℕ). AreLinked link_map (last_or xs None) l (first_or xs None)) parts h.2 in
    ap (λ (o : Option Interlinks). step_forward start (next_in o)) (AreLinked-at link_map (last_or xs None) ys zs (first_or xs None) i stored)
    ∙ step_to start ys i zs (first_or xs None) (subst AreDistinct parts h.1) (ap (λ (l : List ℕ). first_or l None) (sym parts) ∙ first) (inr first)

folds_append : {P A : Type 0} (R : P → A → P → Type 0) (p q r : P) (xs ys : List A) → FoldsTo R p xs q → FoldsTo R q ys r → FoldsTo R p (xs ++ ys) r
folds_append R p q r [] ys first second = subst (λ k. FoldsTo R k ys r) (sym first) second
folds_append R p q r (x ∷ xs) ys first second = (first.0, first.1, folds_append R first.0 q r xs ys first.2 second)

module _ {F P Gen : Type 0} (g : F → P → P → F → Type 0) (key : P → ℕ × Gen) (pointer : ℕ → Option (ℕ × Gen)) (generation : Gen) where
  pub reports_none : (n : ℕ) (f : F) → ReportsMoves g key pointer generation n f [] f
  reports_none n f = record { moves = []; in_turn = refl; from = refl; to = refl }

  pub reports_one : (n : ℕ) (f next : F) (i : ℕ) (p q : P) → Some (key p) ≡ pointer i → key q ≡ (n, generation) → g f p q next
      → ReportsMoves g key pointer generation n f (i ∷ []) next
  reports_one n f next i p q from to called = record {
    moves = (p, q) ∷ [];
    in_turn = (next, called, refl);
    from = ap (λ o. o ∷ []) from;
    to = ap (λ k. k ∷ []) to;
  }

  pub reports_then : (n : ℕ) (f mid last : F) (xs ys : List ℕ) → ReportsMoves g key pointer generation n f xs mid → ReportsMoves g key pointer generation (n + length xs) mid ys last
      → ReportsMoves g key pointer generation n f (xs ++ ys) last
  reports_then n f mid last xs ys one two = record {
    moves = one.moves ++ two.moves;
    in_turn = folds_append (λ s (m : P × P) t. g s m.0 m.1 t) f mid last one.moves two.moves one.in_turn two.in_turn;
    from = map-append (λ (m : P × P). Some (key m.0)) one.moves two.moves ∙ (ap₂ (λ (us vs : List (Option (ℕ × Gen))). us ++ vs) one.from two.from ∙ sym (map-append pointer xs ys));
    to =
        map-append (λ (m : P × P). key m.1) one.moves two.moves
        ∙ (ap₂ (λ (us vs : List (ℕ × Gen)). us ++ vs) one.to two.to
        ∙ (sym (map-append (λ (k : ℕ). (k, generation)) (range_with_len n (length xs)) (range_with_len (n + length xs) (length ys)))
        ∙ ap (λ (ks : List ℕ). map (λ (k : ℕ). (k, generation)) ks) (range_with_len-append n (length xs) (length ys) ∙ ap (range_with_len n) (sym (length-append xs ys)))));
  }

module _ {Gen K T : Type 0} (number : K → Option ℕ) where
  pub stored_at : (slots : List (Option (Gen × RawLink K T))) (i : ℕ) → HasLink (link_map_in number slots) i → (e : Gen × RawLink K T) × (slot_at slots i ≡ Some e)
  stored_at slots i v = by (slot_at slots i) refl v.links
    where
      by : (s : Option (Gen × RawLink K T)) → slot_at slots i ≡ s → option_map (body_interlinks number) s ≡ Some v.link → (e : Gen × RawLink K T) × (slot_at slots i ≡ Some e)
      by None is e = absurd (cc)
      by (Some x) is e = (x, is)

  pub one_numbered : (now new : DetachedView Gen (RawLink K T)) (i : ℕ) (e : Gen × RawLink K T) (w : RawLink K T) → slot_at now.slots i ≡ Some e → new ≡ detached_with_value now i w → (count : ℕ) (done : List ℕ) → AreNumbered number now.slots count done
      → (IsMember done i → ⊥) → number w.destination ≡ Some (count + 1) → AreNumbered number new.slots (count + 1) (done ++ i ∷ [])
  one_numbered now new i e w stored wrote count done n fresh value = record {
    destinations = λ j. after j (ℕ_discrete j i);
    counts = ap (λ (m : ℕ). m + 1) n.counts ∙ sym (length-append done (i ∷ []));
  }
    where
      after : (j : ℕ) → Dec (j ≡ i) → destination_at number new.slots j ≡ place_in (done ++ i ∷ []) j
      after j (yes s) =
          ap (destination_at number new.slots) s ∙ (written_own now new i e w stored wrote number
          ∙ (value ∙ (ap (λ (m : ℕ). Some (m + 1)) n.counts ∙ (sym (place-last done i fresh) ∙ ap (place_in (done ++ i ∷ [])) (sym s)))))
      after j (no ne) = destination_written now new i e w stored wrote number j ne ∙ (n.destinations j ∙ sym (place-before_last done i j (λ s. ne (sym s))))

  pub still_numbered : (now new : DetachedView Gen (RawLink K T)) (i : ℕ) (e : Gen × RawLink K T) (w : RawLink K T) → slot_at now.slots i ≡ Some e → new ≡ detached_with_value now i w → (count : ℕ) (done : List ℕ) → AreNumbered number now.slots count done
      → number w.destination ≡ number e.1.destination → AreNumbered number new.slots count done
  still_numbered now new i e w stored wrote count done n same = record { destinations = λ j. after j (ℕ_discrete j i); counts = n.counts }
    where
      after : (j : ℕ) → Dec (j ≡ i) → destination_at number new.slots j ≡ place_in done j
      after j (yes s) =
          ap (destination_at number new.slots) s
          ∙ (written_own now new i e w stored wrote number ∙ (same ∙ (sym (ap (option_and_then (destination_of number)) stored) ∙ (n.destinations i ∙ ap (place_in done) (sym s)))))
      after j (no ne) = destination_written now new i e w stored wrote number j ne ∙ n.destinations j

abbrev pub behind_of : Chain → Option ℕ
behind_of (linear xs) = None
behind_of (cyclic xs) = last_or xs None

abbrev pub ahead_of : Chain → Option ℕ
ahead_of (linear xs) = None
ahead_of (cyclic xs) = first_or xs None

chain_stored : (link_map : LinkMap) (c : Chain) → IsChain link_map c → AreLinked link_map (behind_of c) (items c) (ahead_of c)
chain_stored link_map (linear xs) h = h.2
chain_stored link_map (cyclic xs) h = h.2

chain_names : (link_map : LinkMap) (c : Chain) (ys : List ℕ) (i : ℕ) (zs : List ℕ) → IsChain link_map c → items c ≡ ys ++ i ∷ zs
    → link_map i ≡ Some (record { prev = last_or ys (behind_of c); next = first_or zs (ahead_of c) })
chain_names link_map c ys i zs h parts = AreLinked-at link_map (behind_of c) ys zs (ahead_of c) i (subst (λ (l : List ℕ). AreLinked link_map (behind_of c) l (ahead_of c)) parts (chain_stored link_map c h))

place-middle : (n : ℕ) (ys : List ℕ) (z : ℕ) (ws : List ℕ) → AreDistinct (ys ++ z ∷ ws) → place_from n (ys ++ z ∷ ws) z ≡ Some (n + length ys)
place-middle n ys z ws once = place-append n ys (z ∷ ws) z (λ h. AreDistinct-apart ys (z ∷ ws) z once h (inl refl)) ∙ place-same (n + length ys) ws z

abbrev pub begun_link : {T : Type 0} → (ℕ → Option ℕ) → ℕ → ℕ → LinkView T → LinkView T
begun_link to start j link = record { prev = if j == start then None else option_and_then to link.prev; next = option_and_then to link.next; value = link.value }

begun_other : {T : Type 0} (to : ℕ → Option ℕ) (start j : ℕ) → j ≢ start → begun_link {T = T} to start j ≡ renamed_link to
begun_other {T} to start j differs = fun_ext (λ l k. record { prev = if_other j start None (option_and_then to l.prev) differs k; next = option_and_then to l.next; value = l.value })

begun_first : {T : Type 0} (to : ℕ → Option ℕ) (start j : ℕ) (l : LinkView T) → j ≡ start → option_and_then to l.prev ≡ None → begun_link to start j l ≡ renamed_link to l
begun_first to start j l same none = λ k. record { prev = (if_same j start None (option_and_then to l.prev) same ∙ sym none) k; next = option_and_then to l.next; value = l.value }

named_before : (to : ℕ → Option ℕ) (start : ℕ) (ys : List ℕ) (i : ℕ) (zs : List ℕ) (behind : Option ℕ) → AreDistinct (ys ++ i ∷ zs) → first_or (ys ++ i ∷ zs) None ≡ Some start
    → option_and_then to (last_or ys None) ≡ (if i == start then None else option_and_then to (last_or ys behind))
named_before to start [] i zs behind once first = sym (if_same i start None _ (one_some first))
named_before to start (y ∷ ys) i zs behind once first =
    sym (if_other i start None _ (λ s. once.0 (subst (IsMember (ys ++ i ∷ zs)) (s ∙ sym (one_some first)) (IsMember-middle ys zs i))))

named_after : (c : Chain) (n : ℕ) (start : ℕ) (ys : List ℕ) (i : ℕ) (zs : List ℕ) → items c ≡ ys ++ i ∷ zs → AreDistinct (items c) → first_or (items c) None ≡ Some start → (count : ℕ) → count ≡ n + length ys
    → number_after (first_or zs None) (first_or zs (ahead_of c)) n (count + 1) ≡ option_and_then (place_from (n + 1) (items c)) (first_or zs (ahead_of c))
named_after c n start ys i (z ∷ ws) parts once first count at =
    let again : items c ≡ (ys ++ i ∷ []) ++ z ∷ ws = parts ∙ sym (append_assoc ys (i ∷ []) (z ∷ ws)) in
    let long : length (ys ++ i ∷ []) ≡ length ys + 1 = length-append ys (i ∷ []) in
    let place : n + 1 + length (ys ++ i ∷ []) ≡ count + 1 + 1 = omega (arith, at, long) in
    sym (ap (λ (xs : List ℕ). place_from (n + 1) xs z) again ∙ (place-middle (n + 1) (ys ++ i ∷ []) z ws (subst AreDistinct again once) ∙ ap (λ (m : ℕ). Some m) place))
named_after (linear xs) n start ys i [] parts once first count at = refl
named_after (cyclic []) n start ys i [] parts once first count at = refl
named_after (cyclic (x ∷ xs)) n start ys i [] parts once first count at = sym (place-same (n + 1) xs x)

pub record IsWalking {Gen K T F P : Type 0} (number : K → Option ℕ) (g : F → P → P → F → Type 0) (key : P → ℕ × Gen) (generation : Gen) (f last : F) (old now : DetachedView Gen (RawLink K T))
    (before after : Arena Gen (RawLink K T)) (count : ℕ) (start : ℕ) (on named prev : Option ℕ) (done : List ℕ) (c : Chain) : Type 0 where
  pub passed : List ℕ
  pub ahead : List ℕ
  pub parts : items c ≡ passed ++ ahead
  pub next : on ≡ first_or ahead None
  pub names : named ≡ first_or ahead (ahead_of c)
  pub behind : prev ≡ option_and_then (place_from (length done + 1) (items c)) (last_or passed None)
  pub numbered : AreNumbered number now.slots count (done ++ passed)
  pub relinking : AreRelinked number (begun_link (place_from (length done + 1) (items c)) start) old now passed
  pub reports : ReportsMoves g key (ptr_at (slot_at old.slots)) generation (length done + 1) f passed last
  pub work : IsWork before after 0 (2 * length passed)

module _ {Gen K T F P : Type 0} (number : K → Option ℕ) (g : F → P → P → F → Type 0) (key : P → ℕ × Gen) (generation : Gen) (f : F) (old : DetachedView Gen (RawLink K T)) (first : Arena Gen (RawLink K T))
    (start before : ℕ) (done : List ℕ) (c : Chain) (can : CanNumber number old.slots start before done c) where
  abbrev to : ℕ → Option ℕ
  to = place_from (length done + 1) (items c)

  chain_is_once : AreDistinct (items c)
  chain_is_once = chain_once (link_map_in number old.slots) c can.chain

  pub walk_begins : IsWalking number g key generation f f old old first first before start (Some start) (Some start) None done c
  walk_begins = record {
    passed = [];
    ahead = items c;
    parts = refl;
    next = sym can.starts;
    names = sym (whatever (items c) can.starts);
    behind = refl;
    numbered = subst (AreNumbered number old.slots before) (sym (append-nil done)) can.numbered;
    relinking = relinked_none number (begun_link to start) old;
    reports = reports_none g key (ptr_at (slot_at old.slots)) generation (length done + 1) f;
    work = work-none first 0;
  }
    where
      whatever : (xs : List ℕ) → first_or xs None ≡ Some start → first_or xs (ahead_of c) ≡ Some start
      whatever [] e = absurd (cc)
      whatever (x ∷ xs) e = e

  pub walk_first : before < length old.slots
  walk_first = by (items c) can.starts can.fits
    where
      by : (xs : List ℕ) → first_or xs None ≡ Some start → length done + length xs ≤ length old.slots → before < length old.slots
      by [] e fits = absurd (cc)
      by (x ∷ xs) e fits = omega (arith, can.numbered.counts, fits)

  module _ (last : F) (now : DetachedView Gen (RawLink K T)) (later : Arena Gen (RawLink K T)) (count : ℕ) (named prev : Option ℕ) where
    module _ (w : IsWalking number g key generation f last old now first later count start None named prev done c) (new : DetachedView Gen (RawLink K T)) (closed : IsRingClosed number start named prev now new) where
      none_ahead : w.ahead ≡ []
      none_ahead = empty w.ahead (sym w.next)
        where
          empty : (xs : List ℕ) → first_or xs None ≡ None → xs ≡ []
          empty [] e = refl
          empty (x ∷ xs) e = absurd (cc)

      all_passed : w.passed ≡ items c
      all_passed = sym (w.parts ∙ (ap (λ (zs : List ℕ). w.passed ++ zs) none_ahead ∙ append-nil w.passed))

      names_cyclic : named ≡ ahead_of c
      names_cyclic = w.names ∙ ap (λ (zs : List ℕ). first_or zs (ahead_of c)) none_ahead

      numbered_all : AreNumbered number now.slots count (done ++ items c)
      numbered_all = subst (λ (xs : List ℕ). AreNumbered number now.slots count (done ++ xs)) all_passed w.numbered

      begun_all : AreRelinked number (begun_link to start) old now (items c)
      begun_all = subst (AreRelinked number (begun_link to start) old now) all_passed w.relinking

      begins : (xs : List ℕ) × (items c ≡ start ∷ xs)
      begins = by (items c) can.starts
        where
          by : (xs : List ℕ) → first_or xs None ≡ Some start → (ys : List ℕ) × (xs ≡ start ∷ ys)
          by [] e = absurd (cc)
          by (x ∷ xs) e = (xs, ap (λ (y : ℕ). y ∷ xs) (one_some e))

      start_reports : link_map_in number old.slots start ≡ Some (record { prev = behind_of c; next = first_or begins.0 (ahead_of c) })
      start_reports = chain_names (link_map_in number old.slots) c [] start begins.0 can.chain begins.1

      start_was_stored : (e : Gen × RawLink K T) × (slot_at old.slots start ≡ Some e)
      start_was_stored = stored_at number old.slots start (record { link = _; links = start_reports })

      start_prev : number start_was_stored.0.1.prev ≡ behind_of c
      start_prev = ap prev_in (sym (ap (option_map (body_interlinks number)) start_was_stored.1) ∙ start_reports)

      has_start : IsMember (items c) start
      has_start = subst (λ (xs : List ℕ). IsMember xs start) (sym begins.1) (inl refl)

      stays_linear : behind_of c ≡ None → new ≡ now → AreNumbered number new.slots count (done ++ items c) × AreRelinked number (λ _. renamed_link to) old new (items c)
      stays_linear none same = (
        subst (λ (h : DetachedView Gen (RawLink K T)). AreNumbered number h.slots count (done ++ items c)) (sym same) numbered_all,
        subst (λ (h : DetachedView Gen (RawLink K T)). AreRelinked number (λ _. renamed_link to) old h (items c)) (sym same)
            (relinked_as number (begun_link to start) old now (items c) begun_all (λ _. renamed_link to) (λ j h. by j (ℕ_discrete j start))),
      )
        where
          own : (j : ℕ) → j ≡ start → (o : Option (Gen × RawLink K T)) → slot_at old.slots j ≡ o → option_map (on_value (begun_link to start j)) (option_map (pair_view number) o) ≡ option_map (on_value (renamed_link to)) (option_map (pair_view number) o)
          own j s None is = refl
          own j s (Some e) is =
              let was_stored : ◌≡◌ {A = Option (Gen × RawLink K T)} (Some e) (Some start_was_stored.0) = sym is ∙ (ap (slot_at old.slots) s ∙ start_was_stored.1) in
              let no_prev : number e.1.prev ≡ None = prev_same was_stored ∙ (start_prev ∙ none) in
              ap (viewed_as e.0) (begun_first to start j (link_view number e.1) s (ap (option_and_then to) no_prev))
            where
              prev_same : {a b : Gen × RawLink K T} → ◌≡◌ {A = Option (Gen × RawLink K T)} (Some a) (Some b) → number a.1.prev ≡ number b.1.prev
              prev_same e = ap (λ (o : Option (Gen × RawLink K T)). option_and_then (λ (x : Gen × RawLink K T). number x.1.prev) o) e

          by : (j : ℕ) → Dec (j ≡ start) → option_map (on_value (begun_link to start j)) (viewed_at number old j) ≡ option_map (on_value (renamed_link to)) (viewed_at number old j)
          by j (yes s) = own j s (slot_at old.slots j) refl
          by j (no differs) = ap (λ (f : LinkView T → LinkView T). option_map (on_value f) (viewed_at number old j)) (begun_other to start j differs)

      closes_ring : (k : ℕ) → named ≡ Some k → prev ≡ option_and_then to (behind_of c) → AreNumbered number new.slots count (done ++ items c) × AreRelinked number (λ _. renamed_link to) old new (items c)
      closes_ring k some is_last = by (slot_at now.slots start) refl
        where
          by : (o : Option (Gen × RawLink K T)) → slot_at now.slots start ≡ o → AreNumbered number new.slots count (done ++ items c) × AreRelinked number (λ _. renamed_link to) old new (items c)
          by None is =
              let none = sym (ap (option_map (pair_view number)) is) ∙ (begun_all.there start has_start ∙ ap (λ (o : Option (Gen × RawLink K T)). option_map (on_value (begun_link to start start)) (option_map (pair_view number) o)) start_was_stored.1) in
              absurd (cc)
          by (Some e) is =
              let wrote = closed.ring k e.1 some (sym (ap (option_map (λ (x : Gen × RawLink K T). x.1)) is)) in
              let x = wrote.0 in
              let view_after : viewed_as e.0 (link_view number e.1) ≡ viewed_as start_was_stored.0.0 (begun_link to start start (link_view number start_was_stored.0.1)) =
              sym (ap (option_map (pair_view number)) is) ∙ (begun_all.there start has_start ∙ ap (λ (o : Option (Gen × RawLink K T)). option_map (on_value (begun_link to start start)) (option_map (pair_view number) o)) start_was_stored.1) in
              let last : number x.prev ≡ option_and_then to (number start_was_stored.0.1.prev) = wrote.1 ∙ (is_last ∙ sym (ap (option_and_then to) start_prev)) in
              let again : link_view number x ≡ record (link_view number e.1) { prev = number x.prev } = ap (link_view number) wrote.2 in
              let here : viewed_as e.0 (link_view number x) ≡ viewed_as start_was_stored.0.0 (renamed_link to (link_view number start_was_stored.0.1)) =
              ap (viewed_as e.0) again ∙ (ap (λ (o : Option (Gen × LinkView T)). option_map (on_value (λ (l : LinkView T). record l { prev = number x.prev })) o) view_after
              ∙ ap (λ (p : Option ℕ). viewed_as start_was_stored.0.0 (record (renamed_link to (link_view number start_was_stored.0.1)) { prev = p })) last) in (
                still_numbered number now new start e x is wrote.3 count (done ++ items c) numbered_all (ap (λ (l : RawLink K T). number l.destination) wrote.2),
                relinked_over number (begun_link to start) old now (items c) begun_all new start e x is wrote.3 has_start (λ _. renamed_link to) (λ j differs. begun_other to start j differs)
                    (here ∙ sym (ap (λ (o : Option (Gen × RawLink K T)). option_map (on_value (renamed_link to)) (option_map (pair_view number) o)) start_was_stored.1)),
              )

      ended : AreNumbered number new.slots count (done ++ items c) × AreRelinked number (λ _. renamed_link to) old new (items c)
      ended = by c refl
        where
          by : (d : Chain) → c ≡ d → AreNumbered number new.slots count (done ++ items c) × AreRelinked number (λ _. renamed_link to) old new (items c)
          by (linear xs) is = stays_linear (ap behind_of is) (closed.linear (names_cyclic ∙ ap ahead_of is))
          by (cyclic xs) is =
              let same : items c ≡ xs = ap items is in
              let named_first : named ≡ first_or xs None = names_cyclic ∙ ap ahead_of is in
              let is_last : prev ≡ option_and_then to (behind_of c) = w.behind ∙ ap (option_and_then to) (ap (λ (ys : List ℕ). last_or ys None) (all_passed ∙ same) ∙ sym (ap behind_of is)) in
              closes_ring start (named_first ∙ (ap (λ (ys : List ℕ). first_or ys None) (sym same) ∙ can.starts)) is_last

      pub walk_ends : (final : Arena Gen (RawLink K T)) → IsWork later final 0 1 → IsChainNumbered number g key generation f last old new first final count done c
      walk_ends final closing = record {
        numbered = ended.0;
        relinked = ended.1;
        reports = subst (λ (xs : List ℕ). ReportsMoves g key (ptr_at (slot_at old.slots)) generation (length done + 1) f xs last) all_passed w.reports;
        work = work-more w.work closing 0 (3 * length (items c)) refl
            (let a : length w.passed ≡ length (items c) = ap length all_passed in let b : length (items c) ≡ suc (length begins.0) = ap length begins.1 in omega arith);
      }

    module _ (i : ℕ) (w : IsWalking number g key generation f last old now first later count start (Some i) named prev done c) where
      here : (zs : List ℕ) × (items c ≡ w.passed ++ i ∷ zs)
      here = by w.ahead w.next w.parts
        where
          by : (zs : List ℕ) → Some i ≡ first_or zs None → items c ≡ w.passed ++ zs → (ws : List ℕ) × (items c ≡ w.passed ++ i ∷ ws)
          by [] e parts = absurd (cc)
          by (z ∷ zs) e parts = (zs, parts ∙ ap (λ (k : ℕ). w.passed ++ k ∷ zs) (sym (one_some e)))

      counted : count ≡ length done + length w.passed
      counted = w.numbered.counts ∙ length-append done w.passed

      pub walk_capacity : count < length old.slots
      walk_capacity =
          let l : length (items c) ≡ length w.passed + suc (length here.0) = ap length here.1 ∙ length-append w.passed (i ∷ here.0) in
          let r : length done + length (items c) ≤ length old.slots = can.fits in
          omega (arith, counted, l, r)

      has : IsMember (items c) i
      has = subst (λ (xs : List ℕ). IsMember xs i) (sym here.1) (IsMember-middle w.passed here.0 i)

      not_passed : IsMember w.passed i → ⊥
      not_passed m = AreDistinct-apart w.passed (i ∷ here.0) i (subst AreDistinct here.1 chain_is_once) m (inl refl)

      fresh : IsMember (done ++ w.passed) i → ⊥
      fresh h = by (IsMember-parts done w.passed i h)
        where
          by : IsMember done i ⊎ IsMember w.passed i → ⊥
          by (inl m) = can.apart i has m
          by (inr m) = not_passed m

      as_first : slot_at now.slots i ≡ slot_at old.slots i
      as_first = w.relinking.stay i not_passed

      reports_here : link_map_in number now.slots i ≡ Some (record { prev = last_or w.passed (behind_of c); next = first_or here.0 (ahead_of c) })
      reports_here = ap (option_map (body_interlinks number)) as_first ∙ chain_names (link_map_in number old.slots) c w.passed i here.0 can.chain here.1

      pub walk_stored : (e : Gen × RawLink K T) × (slot_at now.slots i ≡ Some e)
      walk_stored = stored_at number now.slots i (record { link = _; links = reports_here })

      pub walk_returns : None ≡ option_map (λ (e : Gen × RawLink K T). e.0) (slot_at now.slots i) → ⊥
      walk_returns none = let both = none ∙ ap (option_map (λ (e : Gen × RawLink K T). e.0)) walk_stored.1 in cc

      module _ (follows on : Option ℕ) (is_next : follows ≡ next_of (link_map_in number now.slots) i) (target : on ≡ step_forward start follows) where
        names_next : follows ≡ first_or here.0 (ahead_of c)
        names_next = is_next ∙ ap next_in reports_here

        steps_next : on ≡ first_or here.0 None
        steps_next =
            target
            ∙ (ap (step_forward start) (is_next ∙ ap (λ (o : Option (Gen × RawLink K T)). next_in (option_map (body_interlinks number) o)) as_first)
            ∙ chain_continues (link_map_in number old.slots) c start w.passed i here.0 can.chain can.starts here.1)

        pub walk_more : (k : ℕ) → on ≡ Some k → count + 1 < length old.slots
        walk_more k some =
            let filled : 1 ≤ length here.0 = by here.0 (sym steps_next ∙ some) in
            let l : length (items c) ≡ length w.passed + suc (length here.0) = ap length here.1 ∙ length-append w.passed (i ∷ here.0) in
            let r : length done + length (items c) ≤ length old.slots = can.fits in
            omega (arith, counted, l, r, filled)
          where
            by : (zs : List ℕ) → first_or zs None ≡ Some k → 1 ≤ length zs
            by [] e = absurd (cc)
            by (z ∷ zs) e = omega arith

        pub walk_continues : (d : ℕ) (new : DetachedView Gen (RawLink K T)) (last_work : Arena Gen (RawLink K T)) (was : Gen) (p q : P) (next : F)
            → IsRelinkedAt number i prev (number_after on follows before (count + 1)) (Some d) now new → d ≡ count + 1 → IsWork later last_work 0 2 → Some was ≡ option_map (λ (e : Gen × RawLink K T). e.0) (slot_at now.slots i)
            → key p ≡ (i, was) → key q ≡ (d, generation) → g last p q next
            → IsWalking number g key generation f next old new first last_work (count + 1) start on follows (Some d) done c
        walk_continues d new last_work was p q next relinked at work generates from step_to called = record {
          passed = w.passed ++ i ∷ [];
          ahead = here.0;
          parts = here.1 ∙ sym (append_assoc w.passed (i ∷ []) here.0);
          next = steps_next;
          names = names_next;
          behind = sym (ap (option_and_then to) (last_or-append w.passed (i ∷ []) None) ∙ (own_place ∙ ap (λ (m : ℕ). Some m) (sym place)));
          numbered = subst (AreNumbered number new.slots (count + 1)) (append_assoc done w.passed (i ∷ []))
              (one_numbered number now new i walk_stored.0 x walk_stored.1 wrote.3 count (done ++ w.passed) w.numbered fresh (wrote.2 ∙ ap (λ (m : ℕ). Some m) at));
          relinking = relinked_more number (begun_link to start) old now w.passed w.relinking new i walk_stored.0 x walk_stored.1 wrote.3 not_passed (wrote.1 ∙ (λ j. record { prev = is_prev j; next = is_after j; value = walk_stored.0.1.t }));
          reports = reports_then g key (ptr_at (slot_at old.slots)) generation (length done + 1) f last next w.passed (i ∷ []) w.reports
              (reports_one g key (ptr_at (slot_at old.slots)) generation (length done + 1 + length w.passed) last next i p q reported (step_to ∙ ap (λ (m : ℕ). (m, generation)) place) called);
          work = work-more w.work work 0 (2 * length (w.passed ++ i ∷ [])) refl (let l : length (w.passed ++ i ∷ []) ≡ length w.passed + 1 = length-append w.passed (i ∷ []) in omega arith);
        }
          where
            wrote : (x : RawLink K T) × (link_view number x ≡ record { prev = prev; next = number_after on follows before (count + 1); value = walk_stored.0.1.t }) × (number x.destination ≡ Some d) × (new ≡ detached_with_value now i x)
            wrote = relinked.there walk_stored.0.1 (sym (ap (option_map (λ (e : Gen × RawLink K T). e.1)) walk_stored.1))

            x : RawLink K T
            x = wrote.0

            place : d ≡ length done + 1 + length w.passed
            place = omega (arith, at, counted)

            own_place : to i ≡ Some (length done + 1 + length w.passed)
            own_place = ap (λ (xs : List ℕ). place_from (length done + 1) xs i) here.1 ∙ place-middle (length done + 1) w.passed i here.0 (subst AreDistinct here.1 chain_is_once)

            own_links : Some (body_interlinks number walk_stored.0) ≡ Some (record { prev = last_or w.passed (behind_of c); next = first_or here.0 (ahead_of c) })
            own_links = sym (ap (option_map (body_interlinks number)) walk_stored.1) ∙ reports_here

            is_prev : prev ≡ (if i == start then None else option_and_then to (number walk_stored.0.1.prev))
            is_prev =
                w.behind ∙ (named_before to start w.passed i here.0 (behind_of c) (subst AreDistinct here.1 chain_is_once) (ap (λ (xs : List ℕ). first_or xs None) (sym here.1) ∙ can.starts)
                ∙ ap (λ (o : Option Interlinks). if i == start then None else option_and_then to (prev_in o)) (sym own_links))

            is_after : number_after on follows before (count + 1) ≡ option_and_then to (number walk_stored.0.1.next)
            is_after =
                (λ j. number_after (steps_next j) (names_next j) (can.numbered.counts j) (count + 1))
                ∙ (named_after c (length done) start w.passed i here.0 here.1 chain_is_once can.starts count counted ∙ ap (λ (o : Option Interlinks). option_and_then to (next_in o)) (sym own_links))

            in_slot : (s : Option (Gen × RawLink K T)) → option_map {U = ℕ × Gen} (λ (n : Gen). (i, n)) (option_map (λ (e : Gen × RawLink K T). e.0) s) ≡ option_map {U = ℕ × Gen} (λ (e : Gen × RawLink K T). (i, e.0)) s
            in_slot None = refl
            in_slot (Some e) = refl

            reported : Some (key p) ≡ ptr_at (slot_at old.slots) i
            reported =
                ap (λ (k : ℕ × Gen). Some k) from
                ∙ (ap (λ (o : Option Gen). option_map {U = ℕ × Gen} (λ (n : Gen). (i, n)) o) generates ∙ (in_slot (slot_at now.slots i) ∙ ap (option_map {U = ℕ × Gen} (λ (e : Gen × RawLink K T). (i, e.0))) as_first))
