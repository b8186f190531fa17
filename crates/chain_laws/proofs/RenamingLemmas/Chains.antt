-- What a renaming preserves (whether they agree, neighbor pairs and chains), and that the images of the chains determine it.
use Rattle.std.proofs.Common.{◌≡◌, ◌↔◌, ℕ, inl, inr, List, [], ◌∷◌, Option, None, Some, refl, sym, ap, ◌∙◌, subst, ap₂}
use Rattle.std.specs.Option.{option_and_then}
use mathlib.Core.Path.{fun_ext}
use Rattle.chain_laws.specs.Chains.{LinkMap, Interlinks, Chain, linear, cyclic, items, all_items, IsMember, HasLink, IsWellLinked, IsChain, AreChains, AreLinked, first_or, last_or, prev_in, next_in, prev_of, next_of}
use Rattle.chain_laws.specs.Neighbors.{AreNeighbors}
use Rattle.chain_laws.specs.Renamings.{IsRenaming, AreImages, IsImage, AreImagesOf, RenamingAgrees, RenamingCarriesPairs, RenamingCarriesChains, RenamingCarriesAll, RenamingIsDetermined}
use Rattle.chain_laws.specs.Moves.{RenamingsCompose}
use Rattle.chain_laws.proofs.ChainLemmas.LinkedLists.{link, reports_both, reports_valid, next_valid, prev_valid}
use Rattle.chain_laws.proofs.ChainLemmas.ChainLists.{chain_at, all_items_valid}
use Rattle.chain_laws.proofs.RenamingLemmas.Images.{previous_key, images-first, images-last, images-filled, images-once, images-items, has_image, image_has, image_of, chain_image, image_of_chain}

module _ (to : ℕ → Option ℕ) (old new : LinkMap) (renaming : IsRenaming to old new) where
  pub reports_renamed : (i k : ℕ) → HasLink old i → to i ≡ Some k → new k ≡ Some (link (option_and_then to (prev_of old i)) (option_and_then to (next_of old i)))
  reports_renamed i k valid e = renaming.carries i k (prev_of old i) (next_of old i) (reports_both old i (prev_of old i) (next_of old i) valid refl refl) e

  pub valid_renamed : (i k : ℕ) → HasLink old i → to i ≡ Some k → HasLink new k
  valid_renamed i k valid e = reports_valid new k _ (reports_renamed i k valid e)

  next_renamed : (i k : ℕ) → HasLink old i → to i ≡ Some k → next_of new k ≡ option_and_then to (next_of old i)
  next_renamed i k valid e = ap next_in (reports_renamed i k valid e)

  prev_renamed : (i k : ℕ) → HasLink old i → to i ≡ Some k → prev_of new k ≡ option_and_then to (prev_of old i)
  prev_renamed i k valid e = ap prev_in (reports_renamed i k valid e)

  pairs_renamed : (i j k m : ℕ) → HasLink old i → to i ≡ Some k → to j ≡ Some m → AreNeighbors old i j ↔ AreNeighbors new k m
  pairs_renamed i j k m valid e f = (there, back)
    where
      there : next_of old i ≡ Some j → next_of new k ≡ Some m
      there n = next_renamed i k valid e ∙ (ap (option_and_then to) n ∙ f)

      back : next_of new k ≡ Some m → next_of old i ≡ Some j
      back n =
          let w = previous_key to (next_of old i) m (sym (next_renamed i k valid e) ∙ n) in
          w.1 ∙ ap (λ (x : ℕ). Some x) (renaming.apart w.0 j m w.2 f)

  next_then_prev : IsWellLinked old → (k m : ℕ) → next_of new k ≡ Some m → prev_of new m ≡ Some k
  next_then_prev agrees k m n =
      let i = renaming.onto k (next_valid new k m n) in
      let j = previous_key to (next_of old i.0) m (sym (next_renamed i.0 k i.1 i.2) ∙ n) in
      let p : prev_of old j.0 ≡ Some i.0 = (agrees.both i.0 j.0).0 j.1 in
      prev_renamed j.0 m (prev_valid old j.0 i.0 p) j.2 ∙ (ap (option_and_then to) p ∙ i.2)

  prev_then_next : IsWellLinked old → (k m : ℕ) → prev_of new m ≡ Some k → next_of new k ≡ Some m
  prev_then_next agrees k m p =
      let j = renaming.onto m (prev_valid new m k p) in
      let i = previous_key to (prev_of old j.0) k (sym (prev_renamed j.0 m j.1 j.2) ∙ p) in
      let n : next_of old i.0 ≡ Some j.0 = (agrees.both i.0 j.0).1 i.1 in
      next_renamed i.0 k (next_valid old i.0 j.0 n) i.2 ∙ (ap (option_and_then to) n ∙ j.2)

  stored_renamed : (before : Option ℕ) (xs ys : List ℕ) (after : Option ℕ) → AreImages to xs ys → AreLinked old before xs after
      → AreLinked new (option_and_then to before) ys (option_and_then to after)
  stored_renamed before xs [] after images s = tt
  stored_renamed before [] (y ∷ ys) after images s = absurd images
  stored_renamed before (x ∷ xs) (y ∷ ys) after images s = (
    renaming.carries x y before (first_or xs after) s.0 images.0 ∙ ap (λ (o : Option ℕ). Some (link (option_and_then to before) o)) (images-first to xs ys after images.1),
    subst (λ (o : Option ℕ). AreLinked new o ys (option_and_then to after)) images.0 (stored_renamed (Some x) xs ys after images.1 s.1),
  )

  chain_renamed : (c d : Chain) → IsChain old c → IsImage to c d → IsChain new d
  chain_renamed (linear xs) (linear ys) h image =
      (images-filled to xs ys image h.0, images-once to xs ys renaming.apart image h.1, stored_renamed None xs ys None image h.2)
  chain_renamed (cyclic xs) (cyclic ys) h image = (images-filled to xs ys image h.0, images-once to xs ys renaming.apart image h.1, ring)
    where
      ring : AreLinked new (last_or ys None) ys (first_or ys None)
      ring =
          subst (λ (o : Option ℕ). AreLinked new o ys (first_or ys None)) (images-last to xs ys None image)
          (subst (λ (o : Option ℕ). AreLinked new (option_and_then to (last_or xs None)) ys o) (images-first to xs ys None image)
          (stored_renamed (last_or xs None) xs ys (first_or xs None) image h.2))
  chain_renamed (linear xs) (cyclic ys) h image = absurd image
  chain_renamed (cyclic xs) (linear ys) h image = absurd image

pub renaming_agrees : RenamingAgrees
renaming_agrees to old new renaming agrees = record { both = λ k m. (next_then_prev to old new renaming agrees k m, prev_then_next to old new renaming agrees k m) }

pub renaming_carries_pairs : RenamingCarriesPairs
renaming_carries_pairs to old new i j k m renaming valid e f = pairs_renamed to old new renaming i j k m valid e f

pub renaming_carries_chains : RenamingCarriesChains
renaming_carries_chains to old new c d renaming h image = chain_renamed to old new renaming c d h image

pub renaming_carries_all : RenamingCarriesAll
renaming_carries_all to old new chains others renaming are images = record {
  each = λ d m. let c = image_of_chain to chains others d images m in chain_renamed to old new renaming c.0 d (are.each c.0 c.1) c.2;
  once = images-once to (all_items chains) (all_items others) renaming.apart (images-items to chains others images) are.once;
  all = λ k v. let i = renaming.onto k v in image_has to (all_items chains) (all_items others) i.0 k (images-items to chains others images) (are.all i.0 i.1) i.2;
}

pub same_reported : (left right : LinkMap) → ((k : ℕ) → HasLink left k → left k ≡ right k) → ((k : ℕ) → HasLink right k → left k ≡ right k) → left ≡ right
same_reported left right in_left in_right = fun_ext (λ k. by k (left k) refl (right k) refl)
  where
    by : (k : ℕ) (o : Option Interlinks) → left k ≡ o → (p : Option Interlinks) → right k ≡ p → left k ≡ right k
    by k (Some l) e p f = in_left k (reports_valid left k l e)
    by k None e None f = e ∙ sym f
    by k None e (Some l) f = in_right k (reports_valid right k l f)

pub renaming-same : (to by : ℕ → Option ℕ) (old new : LinkMap) → ((i : ℕ) → to i ≡ by i) → IsRenaming to old new → IsRenaming by old new
renaming-same to by old new same renaming = subst (λ (f : ℕ → Option ℕ). IsRenaming f old new) (fun_ext same) renaming

pub renaming_is_determined : RenamingIsDetermined
renaming_is_determined to old new other one also = same_reported new other (λ k valid. reported_by k (one.onto k valid)) (λ k valid. reported_by k (also.onto k valid))
  where
    reported_by : (k : ℕ) → (i : ℕ) × HasLink old i × (to i ≡ Some k) → new k ≡ other k
    reported_by k i = reports_renamed to old new one i.0 k i.1 i.2 ∙ sym (reports_renamed to old other also i.0 k i.1 i.2)

pub renamings_compose : RenamingsCompose
renamings_compose first second old between new one next = record {
  apart = λ i j k e f.
      let x = previous_key second (first i) k e in
      let y = previous_key second (first j) k f in
      one.apart i j y.0 (x.1 ∙ ap Some (next.apart x.0 y.0 k x.2 y.2)) y.1;
  each = λ i valid.
      let x = one.each i valid in
      let y = next.each x.0 (valid_renamed first old between one i x.0 valid x.1) in
      (y.0, ap (option_and_then second) x.1 ∙ y.1);
  onto = λ k valid.
      let y = next.onto k valid in
      let x = one.onto y.0 y.1 in
      (x.0, x.1, ap (option_and_then second) x.2 ∙ y.2);
  carries = λ i k u v links e.
      let x = previous_key second (first i) k e in
      next.carries x.0 k (option_and_then first u) (option_and_then first v) (one.carries i x.0 u v links x.1) x.2
      ∙ ap₂ (λ (o p : Option ℕ). Some (link o p)) (through_both u) (through_both v);
}
  where
    through_both : (o : Option ℕ) → option_and_then second (option_and_then first o) ≡ option_and_then (λ i. option_and_then second (first i)) o
    through_both None = refl
    through_both (Some i) = refl

module _ (to : ℕ → Option ℕ) (old new : LinkMap) where
  stored_states : (before : Option ℕ) (xs ys : List ℕ) (after : Option ℕ) (i k : ℕ) (u v : Option ℕ) → AreImages to xs ys
      → AreLinked old before xs after → AreLinked new (option_and_then to before) ys (option_and_then to after)
      → IsMember xs i → old i ≡ Some (link u v) → to i ≡ Some k → new k ≡ Some (link (option_and_then to u) (option_and_then to v))
  stored_states before [] ys after i k u v images s t h links e = absurd h
  stored_states before (x ∷ xs) [] after i k u v images s t h links e = absurd images
  stored_states before (x ∷ xs) (y ∷ ys) after i k u v images s t (inl same) links e =
      let there : to i ≡ Some y = ap to (sym same) ∙ images.0 in
      let at : y ≡ k = cc in
      let one : Some (link u v) ≡ Some (link before (first_or xs after)) = sym links ∙ (ap old (sym same) ∙ s.0) in
      ap new (sym at)
      ∙ (t.0
      ∙ (ap (λ (o : Option ℕ). Some (link (option_and_then to before) o)) (sym (images-first to xs ys after images.1))
      ∙ ap renamed_link (sym one)))
    where
      renamed_link : Option Interlinks → Option Interlinks
      renamed_link None = None
      renamed_link (Some l) = Some (link (option_and_then to l.prev) (option_and_then to l.next))
  stored_states before (x ∷ xs) (y ∷ ys) after i k u v images s t (inr h) links e =
      stored_states (Some x) xs ys after i k u v images.1 s.1 (subst (λ (o : Option ℕ). AreLinked new o ys (option_and_then to after)) (sym images.0) t.1) h links e

  chain_states : (c d : Chain) (i k : ℕ) (u v : Option ℕ) → IsImage to c d → IsChain old c → IsChain new d
      → IsMember (items c) i → old i ≡ Some (link u v) → to i ≡ Some k → new k ≡ Some (link (option_and_then to u) (option_and_then to v))
  chain_states (linear xs) (linear ys) i k u v image h n m links e = stored_states None xs ys None i k u v image h.2 n.2 m links e
  chain_states (cyclic xs) (cyclic ys) i k u v image h n m links e =
      stored_states (last_or xs None) xs ys (first_or xs None) i k u v image h.2
      (subst (λ (o : Option ℕ). AreLinked new o ys (option_and_then to (first_or xs None))) (sym (images-last to xs ys None image))
      (subst (λ (o : Option ℕ). AreLinked new (last_or ys None) ys o) (sym (images-first to xs ys None image)) n.2))
      m links e
  chain_states (linear xs) (cyclic ys) i k u v image h n m links e = absurd image
  chain_states (cyclic xs) (linear ys) i k u v image h n m links e = absurd image

  pub renames_by_chains : (chains others : List Chain) → ((i j k : ℕ) → to i ≡ Some k → to j ≡ Some k → i ≡ j) → AreChains old chains → AreImagesOf to chains others
      → AreChains new others → IsRenaming to old new
  renames_by_chains chains others apart are images also = record {
    apart = apart;
    each = λ i valid. has_image to (all_items chains) (all_items others) i (images-items to chains others images) (are.all i valid);
    onto = λ k valid.
        let i = image_of to (all_items chains) (all_items others) k (images-items to chains others images) (also.all k valid) in
        (i.0, all_items_valid old chains i.0 are.each i.1, i.2);
    carries = λ i k u v links e.
        let c = chain_at chains i (are.all i (reports_valid old i (link u v) links)) in
        let d = chain_image to chains others c.0 images c.1 in
        chain_states c.0 d.0 i k u v d.2 (are.each c.0 c.1) (also.each d.0 d.1) c.2 links e;
  }
