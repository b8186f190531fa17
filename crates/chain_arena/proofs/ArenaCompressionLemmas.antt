-- A compression of a chain arena.
use Rattle.std.proofs.Common.{◌≡◌, ℕ, ◌+◌, ◌*◌, ◌≤◌, length, map, Bool, refl, ap, sym, ◌∙◌, subst}
use Rattle.std.specs.Option.{option_map}
use Rattle.std.specs.Fn.{Mut}
use Rattle.std.proofs.lemmas.List.{length-map}
use denote.Ref.{MutBor}
use Rattle.chain_laws.specs.Chains.{IsWellLinked}
use Rattle.chain_laws.specs.Renamings.{IsRenaming}
use Rattle.chain_laws.specs.Arrangements.{place_in}
use Rattle.chain_laws.proofs.RenamingLemmas.Chains.{renaming_agrees}
use Rattle.arena_traits.specs.Arena.{Arena, with_counter}
use Rattle.arena_traits.specs.Entries.{entries, index_of, view_of}
use Rattle.arena_traits.specs.Compressions.{IsCompressed, VisitsAll, counter_after_compression}
use Rattle.arena_base.specs.GatheredSlots.{IsGathered, arena_of_values}
use Rattle.arena_base.proofs.CompactedArenaLemmas.{compressing}
use Rattle.chain_links.specs.ChainArena.{LinkView, on_value, link_value, link_map, values_of}
use Rattle.chain_compaction.specs.LinkCompressions.{ClosesHoles, AreGathered}

module _ {F P T Gen : Type 0} (g : Mut F (P × (MutBor T × (P × Unit {0}))) (Unit {0} × (MutBor T × Unit {0}))) (key : P → ℕ × Gen) (f : F)
    (counter : Gen) (old mid new : Arena Gen (LinkView T)) (is_mid : mid ≡ with_counter old counter) (gathering : AreGathered g key f mid new) where
  like_gathered : IsGathered g key f (values_of mid) (arena_of_values (values_of mid) gathering.values)
  like_gathered = record {
    values = gathering.values;
    arena = refl;
    visits = subst (λ es. VisitsAll g key f (entries (values_of mid)) es) (ap (λ (a : Arena Gen T). entries a) gathering.arena) gathering.visits;
  }

  pub links_compressed : (first : Gen) (following : Gen → Gen) (reset : Bool) (count : ℕ) → counter ≡ counter_after_compression first following reset count old.counter → count ≡ length (entries (values_of old))
      → IsCompressed first following reset (view_of (values_of old)) (view_of (values_of new))
  links_compressed first following reset count is_counter is_count =
      let like =
      compressing g key f counter (values_of old) (values_of mid) (arena_of_values (values_of mid) gathering.values) (ap (λ (a : Arena Gen (LinkView T)). values_of a) is_mid) like_gathered first following reset count is_counter is_count in
      let long : length mid.slots ≡ length (values_of old).slots = ap (λ (a : Arena Gen (LinkView T)). length a.slots) is_mid ∙ sym (length-map old.slots (option_map (on_value link_value))) in
      subst (λ (a : Arena Gen T). IsCompressed first following reset (view_of (values_of old)) (view_of a)) (sym gathering.arena) (record {
        indexes = like.indexes;
        counter = like.counter;
        generation = like.generation;
        generations = like.generations;
        is_counter = like.is_counter;
        slots = record {
          count = like.slots.count;
          freed = like.slots.freed;
          placed = like.slots.placed;
          touches = gathering.touches;
          few = subst (λ (n : ℕ). gathering.touches ≤ 4 * n) long gathering.few;
          touched = ap (λ (a : Arena Gen (LinkView T)). a.touched + gathering.touches) is_mid;
        };
        capacity = like.capacity;
        maximum = like.maximum;
      })

  pub links_visited : VisitsAll g key f (entries (values_of old)) (entries (values_of new))
  links_visited = subst (λ es. VisitsAll g key f es (entries (values_of new))) (ap (λ (a : Arena Gen (LinkView T)). entries (values_of a)) is_mid) gathering.visits

  links_renamed : IsRenaming (place_in (map index_of (entries (values_of old)))) (link_map old) (link_map new)
  links_renamed = subst (λ (a : Arena Gen (LinkView T)). IsRenaming (place_in (map index_of (entries (values_of a)))) (link_map a) (link_map new)) is_mid gathering.renamed

  pub positions_closed : ClosesHoles old new
  positions_closed = record {
    renamed = links_renamed;
    stack_capacity = ap (λ (a : Arena Gen T). a.stack_capacity) gathering.arena ∙ ap (λ (a : Arena Gen (LinkView T)). a.stack_capacity) is_mid;
  }

  pub links_agree : IsWellLinked (link_map old) → IsWellLinked (link_map new)
  links_agree agrees = renaming_agrees (place_in (map index_of (entries (values_of old)))) (link_map old) (link_map new) links_renamed agrees
