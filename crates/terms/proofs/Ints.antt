-- The laws of whole numbers that the library lacks: distributivity, associativity, order under a factor. Assumes nothing.
use Rattle.std.proofs.Common.{◌≡◌, ℕ, zero, suc, ◌≤◌, true, ℤ, pos, ◌+ℤ◌, ◌-ℤ◌, ◌*ℤ◌, neg_ℤ, ◌≤ℤ◌, sym, ap, ◌∙◌, arith}
use lib.IntN.{*ℤ_comm, ℤ_ind, suc_ℤ-*ℤ, pred_ℤ-*ℤ, +ℤ_one, -ℤ_one, zero-*ℤ, *ℤ-zero}
use lib.Signed.{le_z}
use Rattle.std.proofs.lemmas.Int.{ints}

pub le_test : (a b : ℤ) → a ≤ℤ b → le_z a b ≡ true
le_test a b h = grind (arith, ints)

pub test_le : (a b : ℤ) → le_z a b ≡ true → a ≤ℤ b
test_le a b h = grind (arith, ints)

pub both_le : (a b : ℤ) → a ≤ℤ b → b ≤ℤ a → a ≡ b
both_le a b h k = omega (arith, ints)

pub up_step : (a c : ℤ) → (a +ℤ pos 1) *ℤ c ≡ a *ℤ c +ℤ c
up_step a c = rw (+ℤ_one a, suc_ℤ-*ℤ a c)

down_step : (a c : ℤ) → (a +ℤ neg_ℤ (pos 1)) *ℤ c ≡ a *ℤ c -ℤ c
down_step a c = rw (-ℤ_one a, pred_ℤ-*ℤ a c)

-- (a + b) c = a c + b c
pub add_mulℤ : (a b c : ℤ) → (a +ℤ b) *ℤ c ≡ a *ℤ c +ℤ b *ℤ c
add_mulℤ a b c =
    ℤ_ind (λ x. (x +ℤ b) *ℤ c ≡ x *ℤ c +ℤ b *ℤ c)
    (let p : pos 0 +ℤ b ≡ b = omega (arith, ints) in let q = zero-*ℤ c in rw (p, q) (omega (arith, ints)))
    (λ n h. let p : pos n +ℤ pos 1 +ℤ b ≡ (pos n +ℤ b) +ℤ pos 1 = omega (arith, ints) in let s = up_step (pos n +ℤ b) c in let t = up_step (pos n) c in ap (λ z. z *ℤ c) p ∙ omega (arith, ints, s, t, h))
    (λ n h. let p : neg_ℤ (pos n) +ℤ neg_ℤ (pos 1) +ℤ b ≡ (neg_ℤ (pos n) +ℤ b) +ℤ neg_ℤ (pos 1) = omega (arith, ints) in let s = down_step (neg_ℤ (pos n) +ℤ b) c in let t = down_step (neg_ℤ (pos n)) c in ap (λ z. z *ℤ c) p ∙ omega (arith, ints, s, t, h))
    a

-- c (a + b) = c a + c b
pub mul_addℤ : (c a b : ℤ) → c *ℤ (a +ℤ b) ≡ c *ℤ a +ℤ c *ℤ b
mul_addℤ c a b =
    let p = *ℤ_comm c (a +ℤ b) in
    let q = add_mulℤ a b c in
    let r = *ℤ_comm a c in
    let s = *ℤ_comm b c in
    omega (arith, ints)

pub mul_subℤ : (c a b : ℤ) → c *ℤ (a -ℤ b) ≡ c *ℤ a -ℤ c *ℤ b
mul_subℤ c a b =
    let e : (a -ℤ b) +ℤ b ≡ a = omega (arith, ints) in
    let p : c *ℤ a ≡ c *ℤ (a -ℤ b) +ℤ c *ℤ b = ap (λ z. c *ℤ z) (sym e) ∙ mul_addℤ c (a -ℤ b) b in
    omega (arith, ints)

pub sub_mulℤ : (a b c : ℤ) → (a -ℤ b) *ℤ c ≡ a *ℤ c -ℤ b *ℤ c
sub_mulℤ a b c =
    let p = mul_subℤ c a b in
    let q = *ℤ_comm c (a -ℤ b) in
    let r = *ℤ_comm a c in
    let s = *ℤ_comm b c in
    omega (arith, ints)

-- (a b) c = a (b c)
pub mul_assocℤ : (a b c : ℤ) → a *ℤ b *ℤ c ≡ a *ℤ (b *ℤ c)
mul_assocℤ a b c =
    ℤ_ind (λ x. x *ℤ b *ℤ c ≡ x *ℤ (b *ℤ c))
    (rw (zero-*ℤ b, zero-*ℤ c, zero-*ℤ (b *ℤ c)))
    (λ n h. let p = ap (λ z. z *ℤ c) (up_step (pos n) b) ∙ add_mulℤ (pos n *ℤ b) b c in let t = up_step (pos n) (b *ℤ c) in p ∙ omega (arith, ints, h, t))
    (λ n h. let p = ap (λ z. z *ℤ c) (down_step (neg_ℤ (pos n)) b) ∙ sub_mulℤ (neg_ℤ (pos n) *ℤ b) b c in let t = down_step (neg_ℤ (pos n)) (b *ℤ c) in p ∙ omega (arith, ints, h, t))
    a

pub mul_leftℤ : (a b c : ℤ) → a *ℤ (b *ℤ c) ≡ b *ℤ (a *ℤ c)
mul_leftℤ a b c = sym (mul_assocℤ a b c) ∙ ap (λ z. z *ℤ c) (*ℤ_comm a b) ∙ mul_assocℤ b a c

pub one_mulℤ : (z : ℤ) → pos 1 *ℤ z ≡ z
one_mulℤ z = let p = up_step (pos 0) z in let q = zero-*ℤ z in p ∙ omega (arith, ints)

-- a natural factor keeps the order
pub mul_leℤ : (k : ℕ) (a b : ℤ) → a ≤ℤ b → (pos k *ℤ a) ≤ℤ (pos k *ℤ b)
mul_leℤ zero a b h = let p = zero-*ℤ a in let q = zero-*ℤ b in omega (arith, ints)
mul_leℤ (suc k) a b h =
    let r = mul_leℤ k a b h in
    let e : pos (suc k) ≡ pos k +ℤ pos 1 = omega (arith, ints) in
    let p = ap (λ z. z *ℤ a) e ∙ up_step (pos k) a in
    let q = ap (λ z. z *ℤ b) e ∙ up_step (pos k) b in
    omega (arith, ints)

-- a positive factor times a number that is not negative is 0 only at 0
pub zero_factor : (w : ℕ) (z : ℤ) → 1 ≤ w → pos 0 ≤ℤ z → pos w *ℤ z ≡ pos 0 → z ≡ pos 0
zero_factor zero z h l e = absurd (omega arith)
zero_factor (suc w) z h l e =
    let q : pos (suc w) ≡ pos w +ℤ pos 1 = omega (arith, ints) in
    let p = ap (λ y. y *ℤ z) q ∙ up_step (pos w) z in
    let r = mul_leℤ w (pos 0) z l in
    let o = *ℤ-zero (pos w) in
    close (pos (suc w) *ℤ z) (pos w *ℤ z) (pos w *ℤ pos 0) z e p r o l
  where
    close : (a b c z : ℤ) → a ≡ pos 0 → a ≡ b +ℤ z → c ≤ℤ b → c ≡ pos 0 → pos 0 ≤ℤ z → z ≡ pos 0
    close a b c z e p r o l = omega (arith, ints)
