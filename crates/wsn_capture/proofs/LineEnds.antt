-- A line's last byte, which may be a CR.
use Rattle.std.proofs.Common.{◌≡◌, ◌≢◌, ℕ, suc, ◌-◌, ◌≤◌, ◌==◌, Bool, false, cond, List, [], ◌∷◌, length, take, get_or, refl, sym, ap, ◌∙◌, arith}
use Rattle.wsn_rules.specs.Entries.{without_cr}

no_cr : (b : ℕ) → b ≢ 13 → (b == 13) ≡ false
no_cr b other = grind (arith)

-- a line that ends with CR
pub drops_cr : (b : ℕ) (line : List ℕ) → get_or (b ∷ line) (length line) 0 ≡ 13 → without_cr (b ∷ line) ≡ take (length line) (b ∷ line)
drops_cr b [] is = ap (λ (t : Bool). cond t [] (b ∷ [])) (ap (λ (n : ℕ). n == 13) is)
drops_cr b (c ∷ line) is = ap (λ (bs : List ℕ). b ∷ bs) (drops_cr c line is)

-- a line that doesn't
pub keeps_all : (b : ℕ) (line : List ℕ) → get_or (b ∷ line) (length line) 0 ≢ 13 → without_cr (b ∷ line) ≡ b ∷ line
keeps_all b [] other = ap (λ (t : Bool). cond t [] (b ∷ [])) (no_cr b other)
keeps_all b (c ∷ line) other = ap (λ (bs : List ℕ). b ∷ bs) (keeps_all c line other)

pub cr_dropped : (line : List ℕ) → 1 ≤ length line → get_or line (length line - 1) 0 ≡ 13 → take (length line - 1) line ≡ without_cr line
cr_dropped [] some is = absurd (omega arith)
cr_dropped (b ∷ line) some is =
    let last : suc (length line) - 1 ≡ length line = omega arith in
    ap (λ (n : ℕ). take n (b ∷ line)) last ∙ sym (drops_cr b line (ap (λ (n : ℕ). get_or (b ∷ line) n 0) (sym last) ∙ is))

pub nothing_dropped : (line : List ℕ) → (1 ≤ length line → get_or line (length line - 1) 0 ≢ 13) → line ≡ without_cr line
nothing_dropped [] other = refl
nothing_dropped (b ∷ line) other =
    let last : suc (length line) - 1 ≡ length line = omega arith in
    sym (keeps_all b line (λ is. other (omega arith) (ap (λ (n : ℕ). get_or (b ∷ line) n 0) last ∙ is)))
