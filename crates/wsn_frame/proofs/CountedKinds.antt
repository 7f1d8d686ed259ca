-- Counting one more frame, by its kind.
use Rattle.std.proofs.Common.{◌≡◌, ◌+◌, ℕ, Bool, true, false, not, cond, ◌&&◌, refl, sym, ap, ◌∙◌}
use Rattle.wsn_wire.specs.declared.opcode.Op.{Op}
use Rattle.wsn_wire.specs.declared.opcode.Op.TheVariants.{Continue, Text, Binary, Close, Ping, Pong}
use Rattle.wsn_wire.specs.Frame.{is_control}
use Rattle.wsn_rules.specs.Summary.{is_ping, is_pong}

-- A data frame is no ping and no pong.
pub no_control : (op : Op) → is_control op ≡ false → (is_ping op ≡ false) × (is_pong op ≡ false)
no_control Continue is = (refl, refl)
no_control Text is = (refl, refl)
no_control Binary is = (refl, refl)
no_control Close is = let both : true ≡ false = is in cc
no_control Ping is = let both : true ≡ false = is in cc
no_control Pong is = let both : true ≡ false = is in cc

-- A final data frame ends a message.
pub final_ends : (op : Op) (fin : Bool) → is_control op ≡ false → fin ≡ true → not (is_control op) && fin ≡ true
final_ends op fin is final = ap (λ (b : Bool). not b && fin) is ∙ final

-- A data frame that isn't final ends none.
pub goes_on : (op : Op) (fin : Bool) → is_control op ≡ false → fin ≡ false → not (is_control op) && fin ≡ false
goes_on op fin is more = ap (λ (b : Bool). not b && fin) is ∙ more

-- A control ends no message.
pub no_message : (op : Op) (fin : Bool) → is_control op ≡ true → not (is_control op) && fin ≡ false
no_message op fin is = ap (λ (b : Bool). not b && fin) is

-- What is neither a ping nor a pong.
pub no_ping : (op : Op) → (op ≡ Ping → ⊥) → false ≡ is_ping op
no_ping Continue other = refl
no_ping Text other = refl
no_ping Binary other = refl
no_ping Close other = refl
no_ping Ping other = absurd (other refl)
no_ping Pong other = refl

pub no_pong : (op : Op) → (op ≡ Pong → ⊥) → false ≡ is_pong op
no_pong Continue other = refl
no_pong Text other = refl
no_pong Binary other = refl
no_pong Close other = refl
no_pong Ping other = refl
no_pong Pong other = absurd (other refl)

-- what is counted, and what isn't
pub one_more : (n : ℕ) (b : Bool) → b ≡ true → n + 1 ≡ n + cond b 1 0
one_more n b is = ap (λ (x : Bool). n + cond x 1 0) (sym is)

pub no_more : (n : ℕ) (b : Bool) → b ≡ false → n + 0 ≡ n + cond b 1 0
no_more n b is = ap (λ (x : Bool). n + cond x 1 0) (sym is)
