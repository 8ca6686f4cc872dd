-- Sums and products of whole numbers.
use Rattle.std.proofs.Common.{◌≡◌, ℕ, ◌*◌, ℤ, pos, ◌+ℤ◌, ◌-ℤ◌, ◌*ℤ◌, neg_ℤ, sym, ap, ◌∙◌, arith}
use Rattle.std.proofs.lemmas.Int.{ints}
use Rattle.std.proofs.Math.IntN.{*ℤ_comm}
use borrow.Author.Differences.{up, down, same_in, sum_is_lem, neg_is, product_is}

by : (k m n : ℕ) → m ≡ n → m * k ≡ n * k
by k m n e = ap (λ x. x * k) e

distrib : (a b v : ℤ) → (a +ℤ b) *ℤ v ≡ (a *ℤ v) +ℤ (b *ℤ v)
distrib a b v =
    let sum = sum_is_lem a b in
    same_in _ _ (omega (arith, by (up v) _ _ sum, by (down v) _ _ sum, product_is (a +ℤ b) v, product_is a v, product_is b v, sum_is_lem (a *ℤ v) (b *ℤ v)))

negated : (b v : ℤ) → neg_ℤ b *ℤ v ≡ neg_ℤ (b *ℤ v)
negated b v =
    let n = neg_is b in
    same_in _ _ (omega (arith, by (up v) _ _ n.0, by (down v) _ _ n.0, by (up v) _ _ n.1, by (down v) _ _ n.1, product_is (neg_ℤ b) v, product_is b v, neg_is (b *ℤ v)))

assoc : (a b c : ℤ) → (a *ℤ b) *ℤ c ≡ a *ℤ (b *ℤ c)
assoc a b c =
    let ab = product_is a b in
    let bc = product_is b c in
    same_in _ _ (omega (arith, product_is (a *ℤ b) c, product_is a (b *ℤ c), by (up c) _ _ ab.0, by (down c) _ _ ab.1, by (up a) _ _ bc.0, by (down a) _ _ bc.1, by (down c) _ _ ab.0, by (up c) _ _ ab.1, by (down a) _ _ bc.0, by (up a) _ _ bc.1))

distrib_minus : (a b v : ℤ) → (a -ℤ b) *ℤ v ≡ (a *ℤ v) -ℤ (b *ℤ v)
distrib_minus a b v = distrib a (neg_ℤ b) v ∙ ap (λ k. (a *ℤ v) +ℤ k) (negated b v)

distrib_left : (c a b : ℤ) → (c *ℤ a) +ℤ (c *ℤ b) ≡ c *ℤ (a +ℤ b)
distrib_left c a b = (λ j. *ℤ_comm c a j +ℤ *ℤ_comm c b j) ∙ sym (distrib a b c) ∙ *ℤ_comm (a +ℤ b) c

pub add_forms : (a b s t : ℤ) → (a +ℤ b) +ℤ (s +ℤ t) ≡ (a +ℤ s) +ℤ (b +ℤ t)
add_forms a b s t = omega (arith, ints)

pub subtract_forms : (a b s t : ℤ) → (a -ℤ b) +ℤ (s -ℤ t) ≡ (a +ℤ s) -ℤ (b +ℤ t)
subtract_forms a b s t = omega (arith, ints)

pub sum_of_sums : (f g v s t : ℤ) → ((f +ℤ g) *ℤ v) +ℤ (s +ℤ t) ≡ ((f *ℤ v) +ℤ s) +ℤ ((g *ℤ v) +ℤ t)
sum_of_sums f g v s t = ap (λ k. k +ℤ (s +ℤ t)) (distrib f g v) ∙ add_forms (f *ℤ v) (g *ℤ v) s t

pub difference_of_sums : (f g v s t : ℤ) → ((f -ℤ g) *ℤ v) +ℤ (s -ℤ t) ≡ ((f *ℤ v) +ℤ s) -ℤ ((g *ℤ v) +ℤ t)
difference_of_sums f g v s t = ap (λ k. k +ℤ (s -ℤ t)) (distrib_minus f g v) ∙ subtract_forms (f *ℤ v) (g *ℤ v) s t

pub times_sum : (c g v t : ℤ) → ((c *ℤ g) *ℤ v) +ℤ (c *ℤ t) ≡ c *ℤ ((g *ℤ v) +ℤ t)
times_sum c g v t = ap (λ k. k +ℤ (c *ℤ t)) (assoc c g v) ∙ distrib_left c (g *ℤ v) t

pub sum_times : (c f v s : ℤ) → ((f *ℤ c) *ℤ v) +ℤ (s *ℤ c) ≡ ((f *ℤ v) +ℤ s) *ℤ c
sum_times c f v s = ap (λ k. k +ℤ (s *ℤ c)) (assoc f c v ∙ ap (λ k. f *ℤ k) (*ℤ_comm c v) ∙ sym (assoc f v c)) ∙ sym (distrib (f *ℤ v) s c)

pub plus_zero : (v : ℤ) → v +ℤ pos 0 ≡ v
plus_zero v = omega (arith, ints)

pub times_form : (c b t : ℤ) → (c *ℤ b) +ℤ (c *ℤ t) ≡ (c +ℤ pos 0) *ℤ (b +ℤ t)
times_form c b t = distrib_left c b t ∙ ap (λ k. k *ℤ (b +ℤ t)) (sym (plus_zero c))

pub form_times : (a c s : ℤ) → (a *ℤ c) +ℤ (s *ℤ c) ≡ (a +ℤ s) *ℤ (c +ℤ pos 0)
form_times a c s = sym (distrib a s c) ∙ ap (λ k. (a +ℤ s) *ℤ k) (sym (plus_zero c))

pub skip_zero : (v s : ℤ) → (pos 0 *ℤ v) +ℤ s ≡ s
skip_zero v s = omega (arith, ints)

pub one_zero : (v : ℤ) → (pos 1 *ℤ v) +ℤ pos 0 ≡ v
one_zero v = omega (arith, ints)

pub zero_plus : (v : ℤ) → pos 0 +ℤ v ≡ v
zero_plus v = omega (arith, ints)
