-- The writing of values can be read back, so it is one to one; it makes no line break, and leaves numbers. Assumes nothing.
use Rattle.std.proofs.Common.{◌≡◌, ℕ, zero, suc, ◌+◌, ◌-◌, ◌*◌, ◌/◌, ◌%◌, ◌<◌, ◌≤◌, Bool, true, false, cond, ◌||◌, eqb, ltb, leb, [], ◌∷◌, ◌++◌, length, sym, refl, ap, ◌∙◌, arith, length-append, ltb-false, le-ltb, lt-ltb, ne_eqb, le-leb}
use borrow.Author.Tests.{lt-leb, eqb-false}
use Rattle.numbers.proofs.Pick.{pick, by-lt}
use Rattle.buffers.specs.Texts.{Text, q, digits, decimal}
use Rattle.escapes.specs.Escapes.{special, hex_digit, escaped_byte, escaped, longest, shown, hex_value, read_back}
use Rattle.escapes.specs.Claims.{ReadsBack, PrintsApart, Visible, NoBreak, NumbersStand}

-- A byte that is written as it stands is none of the three.
pub record Plain (b : ℕ) : Type 0 where
  pub low : 0x22 ≤ b
  pub high : b ≤ 0x7E
  pub other : b ≡ 0x25 → ⊥

neither : (a b : Bool) → (a || b) ≡ false → (a ≡ false) × (b ≡ false)
neither true b e = absurd (let z : ◌≡◌ {A = ℕ} 0 1 = sym (ap (λ (t : Bool). cond t 1 0) e) in omega arith)
neither false b e = (refl, e)

pub plain-is : (b : ℕ) → special b ≡ false → Plain b
unfolding special
plain-is b e =
    let one = neither (ltb b 0x22) (ltb 0x7E b || eqb b 0x25) e in
    let two = neither (ltb 0x7E b) (eqb b 0x25) one.1 in
    record { low = ltb-false _ _ one.0; high = ltb-false _ _ two.0; other = eqb-false _ _ two.1 }

-- A digit's value.
digit_value : (n : ℕ) → hex_value (hex_digit n) ≡ n
unfolding hex_value hex_digit
digit_value n = by-lt n 10
    (λ lt. let small : 48 + n < 65 = omega arith in let d : 48 + n - 48 ≡ n = omega arith in rw (lt-ltb _ _ lt, lt-ltb _ _ small, d))
    (λ le. let big : 65 ≤ 55 + n = omega arith in let d : 55 + n - 55 ≡ n = omega arith in rw (le-ltb _ _ le, le-ltb _ _ big, d))

-- Reading back one byte, and a byte that stands.
back-percent : (b : ℕ) (t : Text) → read_back (0x25 ∷ hex_digit (b / 16) ∷ hex_digit (b % 16) ∷ t) ≡ b ∷ read_back t
unfolding read_back
back-percent b t =
    let e : 16 * (b / 16) + b % 16 ≡ b = omega arith in
    rw (digit_value (b / 16), digit_value (b % 16), e)

back-plain : (b : ℕ) → (b ≡ 0x25 → ⊥) → (t : Text) → read_back (b ∷ t) ≡ b ∷ read_back t
unfolding read_back
back-plain b n [] = refl
back-plain b n (h ∷ []) = refl
back-plain b n (h ∷ l ∷ t) = rw (ne_eqb _ _ n)

back-byte : (b : ℕ) (t : Text) → read_back (escaped_byte b ++ t) ≡ b ∷ read_back t
unfolding escaped_byte
back-byte b t =
    pick (λ (u : Text). read_back (u ++ t) ≡ b ∷ read_back t) (special b) (λ e. back-percent b t)
    (λ e. back-plain b (plain-is b e).other t)

pub reads-back : ReadsBack
unfolding escaped read_back
reads-back [] = refl
reads-back (b ∷ t) = back-byte b (escaped t) ∙ ap (λ (u : Text). b ∷ u) (reads-back t)

-- So it is one to one, and nothing is written as the mark.
pub escaped-same : (s t : Text) → escaped s ≡ escaped t → s ≡ t
escaped-same s t e = sym (reads-back s) ∙ ap read_back e ∙ reads-back t

no-mark : (s : Text) {G : Type 0} → escaped s ≡ 0x21 ∷ [] → G
unfolding escaped escaped_byte special hex_digit read_back
no-mark s e =
    let is : s ≡ 0x21 ∷ [] = sym (reads-back s) ∙ ap read_back e in
    let z : ◌≡◌ {A = Text} (0x25 ∷ 0x32 ∷ 0x31 ∷ []) (0x21 ∷ []) = sym (ap escaped is) ∙ e in
    let n : ◌≡◌ {A = ℕ} 0x25 0x21 = cc in
    absurd (omega arith)

pub prints-apart : PrintsApart
unfolding shown
prints-apart s t h e =
    by-lt longest (length t)
    (λ over. no-mark s (let f : escaped s ≡ q "!" = rw (le-leb _ _ h, lt-leb _ _ over) at e in f))
    (λ le. escaped-same s t (rw (le-leb _ _ h, le-leb _ _ le) at e))

-- No line break.
pub visible-then : (s t : Text) → Visible s → Visible t → Visible (s ++ t)
visible-then [] t v w = w
visible-then (b ∷ s) t v w = (v.0, visible-then s t v.1 w)

digit-visible : (n : ℕ) → 0x20 < hex_digit n
unfolding hex_digit
digit-visible n = by-lt n 10 (λ lt. rw (lt-ltb _ _ lt) (omega arith)) (λ le. rw (le-ltb _ _ le) (omega arith))

visible-byte : (b : ℕ) → Visible (escaped_byte b)
unfolding escaped_byte
visible-byte b =
    pick Visible (special b) (λ e. (omega arith, (digit-visible (b / 16), (digit-visible (b % 16), tt))))
    (λ e. let low : 0x22 ≤ b = (plain-is b e).low in (omega arith, tt))

pub visible : (t : Text) → Visible (escaped t)
unfolding escaped
visible [] = tt
visible (b ∷ t) = visible-then (escaped_byte b) (escaped t) (visible-byte b) (visible t)

pub no-break : NoBreak
unfolding shown
no-break t = pick Visible (leb (length t) longest) (λ e. visible t) (λ e. (omega arith, tt))

-- A byte is written as three at most.
byte-three : (b : ℕ) → length (escaped_byte b) ≤ 3
unfolding escaped_byte
byte-three b = pick (λ (u : Text). length u ≤ 3) (special b) (λ _. omega arith) (λ _. omega arith)

pub three-at-most : (t : Text) → length (escaped t) ≤ 3 * length t
unfolding escaped
three-at-most [] = omega arith
three-at-most (b ∷ t) = omega (arith, length-append (escaped_byte b) (escaped t), byte-three b, three-at-most t)

-- A text of bytes that stand is written as it stands; numbers are such texts.
abbrev pub Stands : Text → Type 0
Stands [] = Unit {0}
Stands (b ∷ t) = (special b ≡ false) × Stands t

pub escaped-stands : (t : Text) → Stands t → escaped t ≡ t
unfolding escaped escaped_byte
escaped-stands [] h = refl
escaped-stands (b ∷ t) h = rw h.0 (ap (λ (u : Text). b ∷ u) (escaped-stands t h.1))

stands-then : (s t : Text) → Stands s → Stands t → Stands (s ++ t)
stands-then [] t v w = w
stands-then (b ∷ s) t v w = (v.0, stands-then s t v.1 w)

digit-stands : (d : ℕ) → d < 10 → special (48 + d) ≡ false
unfolding special
digit-stands d h =
    let low : 0x22 ≤ 48 + d = omega arith in
    let high : 48 + d ≤ 0x7E = omega arith in
    rw (le-ltb _ _ low, le-ltb _ _ high, ne_eqb (48 + d) 0x25 (λ e. omega arith))

digits-stand : (most n : ℕ) → Stands (digits most n)
unfolding digits
digits-stand zero n = tt
digits-stand (suc most) n = by-lt n 10
    (λ lt. rw (lt-ltb _ _ lt) (digit-stands n lt, tt))
    (λ le. rw (le-ltb _ _ le) (stands-then (digits most (n / 10)) ((48 + n % 10) ∷ []) (digits-stand most (n / 10)) (digit-stands (n % 10) (omega arith), tt)))

pub numbers-stand : NumbersStand
unfolding decimal
numbers-stand n = escaped-stands (decimal n) (digits-stand (suc n) n)
