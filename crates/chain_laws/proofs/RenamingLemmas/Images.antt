-- The images of the items of a list, of a chain, and of a list of chains.
use Rattle.std.proofs.Common.{◌≡◌, ◌≢◌, ℕ, inl, inr, List, [], ◌∷◌, ◌++◌, Option, None, Some, refl, sym, ap, ◌∙◌, subst}
use Rattle.std.specs.Option.{option_and_then}
use Rattle.chain_laws.specs.Chains.{Chain, linear, cyclic, items, HasChain, all_items, IsMember, AreDistinct, first_or, last_or}
use Rattle.chain_laws.specs.Renamings.{AreImages, IsImage, AreImagesOf}
use Rattle.chain_laws.proofs.ListLemmas.Members.{IsMember-left, IsMember-right}

module _ (to : ℕ → Option ℕ) where
  pub previous_key : (o : Option ℕ) (k : ℕ) → option_and_then to o ≡ Some k → (j : ℕ) × (o ≡ Some j) × (to j ≡ Some k)
  previous_key None k e = absurd (cc)
  previous_key (Some j) k e = (j, refl, e)

  pub images-first : (xs ys : List ℕ) (after : Option ℕ) → AreImages to xs ys → option_and_then to (first_or xs after) ≡ first_or ys (option_and_then to after)
  images-first [] [] after images = refl
  images-first [] (y ∷ ys) after images = absurd images
  images-first (x ∷ xs) [] after images = absurd images
  images-first (x ∷ xs) (y ∷ ys) after images = images.0

  pub images-last : (xs ys : List ℕ) (before : Option ℕ) → AreImages to xs ys → option_and_then to (last_or xs before) ≡ last_or ys (option_and_then to before)
  images-last [] [] before images = refl
  images-last [] (y ∷ ys) before images = absurd images
  images-last (x ∷ xs) [] before images = absurd images
  images-last (x ∷ xs) (y ∷ ys) before images = images-last xs ys (Some x) images.1 ∙ ap (last_or ys) images.0

  pub images-filled : (xs ys : List ℕ) → AreImages to xs ys → xs ≢ [] → ys ≢ []
  images-filled [] ys images filled = absurd (filled refl)
  images-filled (x ∷ xs) [] images filled = absurd images
  images-filled (x ∷ xs) (y ∷ ys) images filled = λ e. cc

  pub has_image : (xs ys : List ℕ) (i : ℕ) → AreImages to xs ys → IsMember xs i → (k : ℕ) × (to i ≡ Some k)
  has_image [] ys i images h = absurd h
  has_image (x ∷ xs) [] i images h = absurd images
  has_image (x ∷ xs) (y ∷ ys) i images (inl e) = (y, ap to (sym e) ∙ images.0)
  has_image (x ∷ xs) (y ∷ ys) i images (inr h) = has_image xs ys i images.1 h

  pub image_has : (xs ys : List ℕ) (i k : ℕ) → AreImages to xs ys → IsMember xs i → to i ≡ Some k → IsMember ys k
  image_has [] ys i k images h e = absurd h
  image_has (x ∷ xs) [] i k images h e = absurd images
  image_has (x ∷ xs) (y ∷ ys) i k images (inl s) e = let there : to i ≡ Some y = ap to (sym s) ∙ images.0 in inl (cc)
  image_has (x ∷ xs) (y ∷ ys) i k images (inr h) e = inr (image_has xs ys i k images.1 h e)

  pub image_of : (xs ys : List ℕ) (k : ℕ) → AreImages to xs ys → IsMember ys k → (i : ℕ) × IsMember xs i × (to i ≡ Some k)
  image_of xs [] k images h = absurd h
  image_of [] (y ∷ ys) k images h = absurd images
  image_of (x ∷ xs) (y ∷ ys) k images (inl e) = (x, inl refl, images.0 ∙ ap (λ (z : ℕ). Some z) e)
  image_of (x ∷ xs) (y ∷ ys) k images (inr h) = let w = image_of xs ys k images.1 h in (w.0, inr w.1, w.2)

  pub images-once : (xs ys : List ℕ) → ((i j k : ℕ) → to i ≡ Some k → to j ≡ Some k → i ≡ j) → AreImages to xs ys → AreDistinct xs → AreDistinct ys
  images-once xs [] apart images once = tt
  images-once [] (y ∷ ys) apart images once = absurd images
  images-once (x ∷ xs) (y ∷ ys) apart images once = (again, images-once xs ys apart images.1 once.1)
    where
      again : IsMember ys y → ⊥
      again h = let w = image_of xs ys y images.1 h in once.0 (subst (IsMember xs) (apart w.0 x y w.2 images.0) w.1)

  pub images-append : (xs ys left right : List ℕ) → AreImages to xs left → AreImages to ys right → AreImages to (xs ++ ys) (left ++ right)
  images-append [] ys [] right images more = more
  images-append [] ys (l ∷ left) right images more = absurd images
  images-append (x ∷ xs) ys [] right images more = absurd images
  images-append (x ∷ xs) ys (l ∷ left) right images more = (images.0, images-append xs ys left right images.1 more)

  pub image-items : (c d : Chain) → IsImage to c d → AreImages to (items c) (items d)
  image-items (linear xs) (linear ys) image = image
  image-items (cyclic xs) (cyclic ys) image = image
  image-items (linear xs) (cyclic ys) image = absurd image
  image-items (cyclic xs) (linear ys) image = absurd image

  pub images-items : (chains others : List Chain) → AreImagesOf to chains others → AreImages to (all_items chains) (all_items others)
  images-items [] [] images = tt
  images-items [] (d ∷ others) images = absurd images
  images-items (c ∷ chains) [] images = absurd images
  images-items (c ∷ chains) (d ∷ others) images =
      images-append (items c) (all_items chains) (items d) (all_items others) (image-items c d images.0) (images-items chains others images.1)

  pub chain_image : (chains others : List Chain) (c : Chain) → AreImagesOf to chains others → HasChain chains c → (d : Chain) × HasChain others d × IsImage to c d
  chain_image [] others c images m = absurd m
  chain_image (b ∷ chains) [] c images m = absurd images
  chain_image (b ∷ chains) (d ∷ others) c images (inl e) = (d, inl refl, subst (λ (x : Chain). IsImage to x d) e images.0)
  chain_image (b ∷ chains) (d ∷ others) c images (inr m) = let w = chain_image chains others c images.1 m in (w.0, inr w.1, w.2)

  pub image_of_chain : (chains others : List Chain) (d : Chain) → AreImagesOf to chains others → HasChain others d → (c : Chain) × HasChain chains c × IsImage to c d
  image_of_chain chains [] d images m = absurd m
  image_of_chain [] (o ∷ others) d images m = absurd images
  image_of_chain (c ∷ chains) (o ∷ others) d images (inl e) = (c, inl refl, subst (IsImage to c) e images.0)
  image_of_chain (c ∷ chains) (o ∷ others) d images (inr m) = let w = image_of_chain chains others d images.1 m in (w.0, inr w.1, w.2)

pub images-same : (to by : ℕ → Option ℕ) (xs ys : List ℕ) → ((i : ℕ) → IsMember xs i → to i ≡ by i) → AreImages to xs ys → AreImages by xs ys
images-same to by [] [] same images = tt
images-same to by [] (y ∷ ys) same images = absurd images
images-same to by (x ∷ xs) [] same images = absurd images
images-same to by (x ∷ xs) (y ∷ ys) same images = (sym (same x (inl refl)) ∙ images.0, images-same to by xs ys (λ i h. same i (inr h)) images.1)

image-same : (to by : ℕ → Option ℕ) (c d : Chain) → ((i : ℕ) → IsMember (items c) i → to i ≡ by i) → IsImage to c d → IsImage by c d
image-same to by (linear xs) (linear ys) same image = images-same to by xs ys same image
image-same to by (cyclic xs) (cyclic ys) same image = images-same to by xs ys same image
image-same to by (linear xs) (cyclic ys) same image = absurd image
image-same to by (cyclic xs) (linear ys) same image = absurd image

pub images_of-same : (to by : ℕ → Option ℕ) (chains others : List Chain) → ((i : ℕ) → IsMember (all_items chains) i → to i ≡ by i) → AreImagesOf to chains others
    → AreImagesOf by chains others
images_of-same to by [] [] same images = tt
images_of-same to by [] (d ∷ others) same images = absurd images
images_of-same to by (c ∷ chains) [] same images = absurd images
images_of-same to by (c ∷ chains) (d ∷ others) same images = (
  image-same to by c d (λ i h. same i (IsMember-left (items c) (all_items chains) i h)) images.0,
  images_of-same to by chains others (λ i h. same i (IsMember-right (items c) (all_items chains) i h)) images.1,
)
