-- Sets whose keys and values are moved.
use Rattle.std.proofs.Common.{◌≡◌, ℕ, ◌≤◌, inl, inr, List, [], ◌∷◌, map, length, Bool, Option, Some, refl, sym, ap, ap₂, ◌∙◌, subst, arith}
use Rattle.std.specs.Prelude.{All, slice_index_or}
use Rattle.arena_core.specs.Numbers.{IsWithin}
use Rattle.arena_traits.specs.Arena.{IsValid}
use Rattle.arena_traits.specs.Compressions.{IsCompressed, values_in}
use Rattle.arena_traits.specs.Entries.{ArenaView, ArenaState, index_of}
use Rattle.chain_laws.specs.Chains.{LinkMap, cyclic, IsMember}
use Rattle.chain_laws.specs.Arrangements.{place_in}
use Rattle.chain_laws.specs.Renamings.{IsRenaming, AreImages}
use Rattle.chain_laws.proofs.RenamingLemmas.Chains.{renaming_carries_chains}
use Rattle.chain_laws.proofs.RenamingLemmas.Images.{image_has, image_of}
use Rattle.chain_laws.proofs.RenamingLemmas.Positions.{place-apart}
use Rattle.surject_arena.specs.Partitions.{counted, member_view, counted_view, set_in, size_in, IsSet, IsPartition}
use Rattle.surject_arena.specs.Renames.{HasPlaces, AreMatched, IsRenamed, keys_of}
use Rattle.surject_arena.specs.SetCompressions.{IsMoved, AreSetsCompressed}
use Rattle.surject_arena.specs.Surjections.{Surjection, IsKey, IsKeyOf, AreInOneSet}
use Rattle.surject_arena.specs.declared.members.Counted.{Counted}
use Rattle.surject_arena.specs.declared.members.Member.{Member}
use Rattle.surject_arena.proofs.MoveLemmas.{numbered, all_found, moved_to, moved_from, with_generation, same_values, values_each, compressed-each}
use Rattle.surject_arena.proofs.OptionLemmas.{same_some, from_mapped}
use Rattle.surject_arena.proofs.PartitionLemmas.{name_is}
use Rattle.surject_arena.proofs.SetReadLemmas.{seen, key_of, of_key, set_stored, size_stored, value_sized}
use Rattle.surject_arena.proofs.ViewLemmas.{each, index-each, each-valid, valid-each}

module _ (to : ℕ → Option ℕ) where
  images : (xs : List ℕ) → ((i : ℕ) → IsMember xs i → (k : ℕ) × (to i ≡ Some k)) → (ys : List ℕ) × AreImages to xs ys
  images [] have = ([], tt)
  images (x ∷ xs) have =
      let first = have x (inl refl) in
      let rest = images xs (λ i has. have i (inr has)) in
      (first.0 ∷ rest.0, (first.1, rest.1))

  images-length : (xs ys : List ℕ) → AreImages to xs ys → length ys ≡ length xs
  images-length [] [] are = refl
  images-length [] (y ∷ ys) are = absurd are
  images-length (x ∷ xs) [] are = absurd are
  images-length (x ∷ xs) (y ∷ ys) are = omega (arith, images-length xs ys are.1)

module _ {Gen : Type 0} (set after : ℕ → Option (ℕ × Gen)) (links changed : LinkMap) (size resized : ℕ → Option (Gen × ℕ)) (to : ℕ → Option ℕ) (Moves : ℕ × Gen → ℕ × Gen → Type 0) where
  pub record AreMoved : Type 0 where
    pub links_renamed : IsRenaming to links changed
    pub forth : (i : ℕ) (w : ℕ × Gen) → set i ≡ Some w → (k : ℕ) × (v : ℕ × Gen) × (to i ≡ Some k) × Moves w v × (after k ≡ Some v)
    pub onto : (k : ℕ) (v : ℕ × Gen) → after k ≡ Some v → (i : ℕ) × (w : ℕ × Gen) × (to i ≡ Some k) × (set i ≡ Some w)
    pub sizes : (w v : ℕ × Gen) (n : ℕ) → Moves w v → size w.0 ≡ Some (w.1, n) → resized v.0 ≡ Some (v.1, n)
    pub named : (v : ℕ × Gen) (n : ℕ) → resized v.0 ≡ Some (v.1, n) → (w : ℕ × Gen) × Moves w v × (size w.0 ≡ Some (w.1, n))
    pub one : (w v u : ℕ × Gen) → Moves w v → Moves w u → v ≡ u
    pub apart : (w u v : ℕ × Gen) → Moves w v → Moves u v → w ≡ u

  module _ (is : IsPartition set links size) (are : AreMoved) where
    back : (k : ℕ) (v : ℕ × Gen) → after k ≡ Some v → (i : ℕ) × (w : ℕ × Gen) × (to i ≡ Some k) × Moves w v × (set i ≡ Some w)
    back k v at =
        let from = are.onto k v at in
        let there = are.forth from.0 from.1 from.3 in
        let same : there.0 ≡ k = same_some there.0 k (sym there.2 ∙ from.2) in
        let name : there.1 ≡ v = same_some there.1 v (sym there.4 ∙ (ap after same ∙ at)) in
        (from.0, from.1, from.2, subst (Moves from.1) name there.3, from.3)

    pub moved_partition : IsPartition after changed resized
    moved_partition = record {
      valued = λ k v at.
          let from = back k v at in
          let known = is.valued from.0 from.1 from.4 in
          (known.0, are.sizes from.1 v known.0 from.3 known.1);
      sets = λ v n at.
          let w = are.named v n at in
          moved_set v n w.0 w.1 (is.sets w.0 n w.2);
    }
      where
        moved_set : (v : ℕ × Gen) (n : ℕ) (w : ℕ × Gen) → Moves w v → IsSet set links w n → IsSet after changed v n
        moved_set v n w moves s =
            let new = images to s.items (λ i has. let there = are.forth i w ((s.members i).0 has) in (there.0, there.2)) in
            record {
              items = new.0;
              chain = renaming_carries_chains to links changed (cyclic s.items) (cyclic new.0) are.links_renamed s.chain new.1;
              size = images-length to s.items new.0 new.1 ∙ s.size;
              members = λ k. (
                λ has.
                    let i = image_of to s.items new.0 k new.1 has in
                    let there = are.forth i.0 w ((s.members i.0).0 i.1) in
                    let same : there.0 ≡ k = same_some there.0 k (sym there.2 ∙ i.2) in
                    ap after (sym same) ∙ (there.4 ∙ ap (λ (x : ℕ × Gen). Some x) (are.one w there.1 v there.3 moves)),
                λ at.
                    let from = back k v at in
                    image_has to s.items new.0 from.0 k new.1 ((s.members from.0).1 (from.4 ∙ ap (λ (x : ℕ × Gen). Some x) (are.apart from.1 w v from.3 moves))) from.2,
              );
            }

module _ {A B P Gen K V : Type 0} (key : P → ℕ × Gen) {kview : A → ArenaView Gen (Member P K)} {kentry : A → ℕ → Option (Gen × Member P K)} (kstate : (a : A) → ArenaState (kview a) (kentry a))
    {vview : B → ArenaView Gen (Counted V)} {ventry : B → ℕ → Option (Gen × Counted V)} (vstate : (b : B) → ArenaState (vview b) (ventry b)) (a c : A) (b d : B) (links changed : LinkMap)
    (first : Gen) (following : Gen → Gen) (reset : Bool) (greatest : ℕ) (places : List ℕ) (generation : Gen)
    (is : IsPartition (set_in key (kentry a)) links (size_in (ventry b)))
    (listed : HasPlaces (map index_of (vview b).entries) places)
    (values : IsCompressed first following reset (vview b) (vview d)) (stay : values_in (vview d).entries ≡ values_in (vview b).entries)
    (generations : All (λ e. e.0.1 ≡ generation) (vview d).entries) (indexes : All (λ e. IsWithin greatest (index_of e)) (vview d).entries)
    (keys : IsCompressed first following reset (kview a) (kview c)) (renamed : IsRenaming (place_in (map index_of (kview a).entries)) links changed)
    (sets : AreMatched (λ e f. IsRenamed key places generation greatest e.1 f.1) (kview a).entries (kview c).entries) where
  abbrev value_place : ℕ → Option ℕ
  value_place = place_in (map index_of (vview b).entries)

  abbrev key_place : ℕ → Option ℕ
  key_place = place_in (map index_of (kview a).entries)

  record Moves (w v : ℕ × Gen) : Type 0 where
    pub was : IsValid (ventry b) w
    pub place : value_place w.0 ≡ Some v.0
    pub generation_is : v.1 ≡ generation

  abbrev SameValue : Gen × Counted V → Gen × Counted V → Type 0
  SameValue e f = (f.0 ≡ generation) × (f.1 ≡ e.1)

  same_value : AreMatched (λ e f. SameValue (e.0.1, e.1) (f.0.1, f.1)) (vview b).entries (vview d).entries
  same_value = with_generation (λ e f. f ≡ e) generation (vview b).entries (vview d).entries (same_values (vview b).entries (vview d).entries stay) generations

  value_forth : (w : ℕ × Gen) (t : Counted V) → ventry b w.0 ≡ Some (w.1, t) → (v : ℕ × Gen) × Moves w v × (ventry d v.0 ≡ Some (v.1, t))
  value_forth w t at =
      let m = moved_to SameValue 1 (vview b).entries (vview d).entries same_value (numbered 1 _ (vview d).entries values.indexes) w.0 (w.1, t) ((vstate b).finds w.0 ∙ at) in (
        (m.to, generation),
        record { was = record { value = t; stored = at }; place = m.place; generation_is = refl },
        sym ((vstate d).finds m.to) ∙ (m.stored ∙ ap₂ (λ (g : Gen) (x : Counted V). Some (g, x)) m.related.0 m.related.1),
      )

  value_back : (v : ℕ × Gen) (t : Counted V) → ventry d v.0 ≡ Some (v.1, t) → (w : ℕ × Gen) × Moves w v × (ventry b w.0 ≡ Some (w.1, t))
  value_back v t at =
      let m = moved_from SameValue 1 1 (vview b).entries (vview d).entries same_value (numbered 1 _ (vview d).entries values.indexes) (vstate b).ascends v.0 (v.1, t) ((vstate d).finds v.0 ∙ at) in
      let stored = sym ((vstate b).finds m.from) ∙ m.stored in (
        (m.from, m.entry.0),
        record { was = record { value = m.entry.1; stored = stored }; place = m.place; generation_is = m.related.0 },
        stored ∙ ap (λ (x : Counted V). Some (m.entry.0, x)) (sym m.related.1),
      )

  one_name : (w v u : ℕ × Gen) → Moves w v → Moves w u → v ≡ u
  one_name w v u m n = name_is v u (same_some v.0 u.0 (sym m.place ∙ n.place)) (m.generation_is ∙ sym n.generation_is)

  apart_names : (w u v : ℕ × Gen) → Moves w v → Moves u v → w ≡ u
  apart_names w u v m n =
      let index : w.0 ≡ u.0 = place-apart 1 (map index_of (vview b).entries) w.0 u.0 v.0 m.place n.place in
      let stored : (w.1, m.was.value) ≡ (u.1, n.was.value) = same_some (w.1, m.was.value) (u.1, n.was.value) (sym m.was.stored ∙ (ap (ventry b) index ∙ n.was.stored)) in
      name_is w u index (ap (λ (x : Gen × Counted V). x.0) stored)

  name_within : (w v : ℕ × Gen) → Moves w v → (1 ≤ v.0) × (v.0 ≤ greatest)
  name_within w v m =
      let there = value_forth w m.was.value m.was.stored in
      let same : there.0 ≡ v = one_name w there.0 v there.1 m in
      let within : IsWithin greatest there.0.0 = all_found (λ e. IsWithin greatest (index_of e)) there.0.0 (there.0.1, m.was.value) (vview d).entries indexes ((vstate d).finds there.0.0 ∙ there.2) in
      subst (λ (x : ℕ × Gen). IsWithin greatest x.0) same within

  abbrev Renames : Gen × Member P K → Gen × Member P K → Type 0
  Renames e f = (f.0 ≡ keys.generation) × IsRenamed key places generation greatest e.1 f.1

  renames : AreMatched (λ e f. Renames (e.0.1, e.1) (f.0.1, f.1)) (kview a).entries (kview c).entries
  renames = with_generation (IsRenamed key places generation greatest) keys.generation (kview a).entries (kview c).entries sets keys.generations

  key_forth : (i : ℕ) (w : ℕ × Gen) → set_in key (kentry a) i ≡ Some w → (k : ℕ) × (v : ℕ × Gen) × (key_place i ≡ Some k) × Moves w v × (set_in key (kentry c) k ≡ Some v)
  key_forth i w at =
      let e = from_mapped (λ (x : Gen × Member P K). key x.1.set) (kentry a i) w at in
      let known = is.valued i w at in
      let value = value_sized (ventry b) w known.0 known.1 in
      let v = value_forth w (counted value.0 known.0) value.1 in
      let m = moved_to Renames 1 (kview a).entries (kview c).entries renames (numbered 1 _ (kview c).entries keys.indexes) i e.0 ((kstate a).finds i ∙ e.1) in
      let within = name_within w v.0 v.1 in
      let name : key m.entry.1.set ≡ (v.0.0, generation) = m.related.1 v.0.0 (ap (λ (x : ℕ × Gen). slice_index_or places x.0 0) e.2 ∙ listed w.0 v.0.0 v.1.place) within.0 within.1 in
      (m.to, v.0, m.place, v.1, set_stored key (kentry c) m.to m.entry.0 m.entry.1 (sym ((kstate c).finds m.to) ∙ m.stored) ∙ ap (λ (x : ℕ × Gen). Some x) (name ∙ name_is (v.0.0, generation) v.0 refl (sym v.1.generation_is)))

  key_onto : (k : ℕ) (v : ℕ × Gen) → set_in key (kentry c) k ≡ Some v → (i : ℕ) × (w : ℕ × Gen) × (key_place i ≡ Some k) × (set_in key (kentry a) i ≡ Some w)
  key_onto k v at =
      let f = from_mapped (λ (x : Gen × Member P K). key x.1.set) (kentry c k) v at in
      let m = moved_from Renames 1 1 (kview a).entries (kview c).entries renames (numbered 1 _ (kview c).entries keys.indexes) (kstate a).ascends k f.0 ((kstate c).finds k ∙ f.1) in
      (m.from, key m.entry.1.set, m.place, set_stored key (kentry a) m.from m.entry.0 m.entry.1 (sym ((kstate a).finds m.from) ∙ m.stored))

  are_moved : AreMoved (set_in key (kentry a)) (set_in key (kentry c)) links changed (size_in (ventry b)) (size_in (ventry d)) key_place Moves
  are_moved = record {
    links_renamed = renamed;
    forth = key_forth;
    onto = key_onto;
    sizes = λ w v n m at.
        let value = value_sized (ventry b) w n at in
        let there = value_forth w (counted value.0 n) value.1 in
        let same : there.0 ≡ v = one_name w there.0 v there.1 m in
        subst (λ (x : ℕ × Gen). size_in (ventry d) x.0 ≡ Some (x.1, n)) same (size_stored (ventry d) there.0.0 there.0.1 value.0 n there.2);
    named = λ v n at.
        let value = value_sized (ventry d) v n at in
        let from = value_back v (counted value.0 n) value.1 in
        (from.0, from.1, size_stored (ventry b) from.0.0 from.0.1 value.0 n from.2);
    one = one_name;
    apart = apart_names;
  }

  pub compressed_partition : IsPartition (set_in key (kentry c)) changed (size_in (ventry d))
  compressed_partition = moved_partition (set_in key (kentry a)) (set_in key (kentry c)) links changed (size_in (ventry b)) (size_in (ventry d)) key_place Moves is are_moved

  place-each : {X Y : Type 0} (f : X → Y) (es : List ((ℕ × Gen) × X)) (i k : ℕ) → place_in (map index_of (map (each f) es)) i ≡ Some k → place_in (map index_of es) i ≡ Some k
  place-each f es i k at = subst (λ (l : List ℕ). place_in l i ≡ Some k) (index-each f es) at

  module _ (r : ℕ) where
    abbrev old : Surjection Gen K V
    old = seen key kstate vstate a b r

    abbrev new : Surjection Gen K V
    new = seen key kstate vstate c d r

    moved_key : (p q w : ℕ × Gen) → IsMoved old.keys new.keys p q → IsKeyOf old w p → (v : ℕ × Gen) × Moves w v × IsKeyOf new v q
    moved_key p q w moved own =
        let there = key_forth p.0 w (of_key key kstate vstate a b r p w own).1 in
        let index : there.0 ≡ q.0 = same_some there.0 q.0 (sym there.2 ∙ place-each (member_view key) (kview a).entries p.0 q.0 moved.place) in
        (there.1, there.3, key_of key kstate vstate c d r q there.1 (each-valid (member_view key) kstate c q moved.is) (ap (set_in key (kentry c)) (sym index) ∙ there.4))

    moved_pointer : (p : ℕ × Gen) → IsKey old p → (q : ℕ × Gen) × IsMoved old.keys new.keys p q
    moved_pointer p valid =
        let was = each-valid (member_view key) kstate a p valid in
        let m = moved_to Renames 1 (kview a).entries (kview c).entries renames (numbered 1 _ (kview c).entries keys.indexes) p.0 (p.1, was.value) ((kstate a).finds p.0 ∙ was.stored) in (
          (m.to, m.entry.0),
          record {
            was = valid;
            place = subst (λ (l : List ℕ). place_in l p.0 ≡ Some m.to) (sym (index-each (member_view key) (kview a).entries)) m.place;
            is = valid-each (member_view key) kstate c (m.to, m.entry.0) (record { value = m.entry.1; stored = sym ((kstate c).finds m.to) ∙ m.stored });
          },
        )

    moved_name : (w v : ℕ × Gen) → IsMoved old.values new.values w v → Moves w v
    moved_name w v moved =
        let valid : IsValid (ventry d) v = each-valid counted_view vstate d v moved.is in
        record {
          was = each-valid counted_view vstate b w moved.was;
          place = place-each counted_view (vview b).entries w.0 v.0 moved.place;
          generation_is = all_found (λ e. e.0.1 ≡ generation) v.0 (v.1, valid.value) (vview d).entries generations ((vstate d).finds v.0 ∙ valid.stored);
        }

    one_set : (p v u : ℕ × Gen) → IsKeyOf new v p → IsKeyOf new u p → v ≡ u
    one_set p v u in_v in_u = ap (λ (x : Gen × (K × (ℕ × Gen))). x.1.1) (same_some (p.1, (in_v.0, v)) (p.1, (in_u.0, u)) (sym in_v.1 ∙ in_u.1))

    were_together : (p p' q q' : ℕ × Gen) → IsMoved old.keys new.keys p p' → IsMoved old.keys new.keys q q' → AreInOneSet new p' q' → AreInOneSet old p q
    were_together p p' q q' move_p move_q one =
        let own_p : IsKeyOf old move_p.was.value.1 p = (move_p.was.value.0, move_p.was.stored) in
        let own_q : IsKeyOf old move_q.was.value.1 q = (move_q.was.value.0, move_q.was.stored) in
        let new_p = moved_key p p' move_p.was.value.1 move_p own_p in
        let new_q = moved_key q q' move_q.was.value.1 move_q own_q in
        let same : move_p.was.value.1 ≡ move_q.was.value.1 = apart_names move_p.was.value.1 move_q.was.value.1 one.0
        (subst (Moves move_p.was.value.1) (one_set p' new_p.0 one.0 new_p.2 one.1) new_p.1) (subst (Moves move_q.was.value.1) (one_set q' new_q.0 one.0 new_q.2 one.2) new_q.1) in
        (move_q.was.value.1, subst (λ (x : ℕ × Gen). IsKeyOf old x p) same own_p, own_q)

    pub sets_compressed : AreSetsCompressed first following reset old new
    sets_compressed = record {
      keys = compressed-each (member_view key) first following reset (kview a) (kview c) keys;
      values = compressed-each counted_view first following reset (vview b) (vview d) values;
      moved = moved_pointer;
      values_stay = values_each counted_view (vview d).entries ∙ (ap (map counted_view) stay ∙ sym (values_each counted_view (vview b).entries));
      sets = λ p p' w w' move_p move_w own.
          let there = moved_key p p' w move_p own in
          subst (λ (x : ℕ × Gen). IsKeyOf new x p') (one_name w there.0 w' there.1 (moved_name w w' move_w)) there.2;
      together = λ p p' q q' move_p move_q. (
        λ one.
            let new_p = moved_key p p' one.0 move_p one.1 in
            let new_q = moved_key q q' one.0 move_q one.2 in
            (new_p.0, new_p.2, subst (λ (x : ℕ × Gen). IsKeyOf new x q') (one_name one.0 new_q.0 new_p.0 new_q.1 new_p.1) new_q.2),
        were_together p p' q q' move_p move_q,
      );
      redirected = refl;
    }

pub keys_seen : {P Gen K : Type 0} (key : P → ℕ × Gen) (es : List ((ℕ × Gen) × Member P K)) → map (λ (e : (ℕ × Gen) × (K × (ℕ × Gen))). (e.0, e.1.0)) (map (each (member_view key)) es) ≡ keys_of es
keys_seen key [] = refl
keys_seen key (e ∷ es) = ap (λ l. (e.0, e.1.key) ∷ l) (keys_seen key es)
