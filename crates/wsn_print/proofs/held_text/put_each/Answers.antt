use Rattle.std.proofs.Common.{◌≡◌, ◌++◌, ◌+◌, ◌<◌, ◌≤◌, ℕ, Bool, true, false, cond, List, length, take, get_or, ap, sym, ◌∙◌, refl, arith, append_assoc}
use Rattle.std.proofs.lemmas.Grind.{common_steps}
use mir.Val.{bool_byte}
use Rattle.std.specs.Prelude.{flat_map}
use Rattle.wsn_print.specs.Runs.{escaped_byte, takes_backslash}
use Rattle.wsn_print.proofs.Pieces.{one_more}
use Rattle.wsn_print.proofs.RunTexts.{byte_written}
use Rattle.wsn_print.proofs.held_text.put_each.Goals as goal

byte_of : (b : Bool) → bool_byte b ≡ cond b 1 0
byte_of true = refl
byte_of false = refl

at_most_one : (b : Bool) → cond b 1 0 ≤ 1
at_most_one true = omega arith
at_most_one false = omega arith

-- One more byte is written.
written_more : (f : ℕ → List ℕ) (xs : List ℕ) (k x : ℕ) (front t0 t2 : List ℕ) → k < length xs → x ≡ get_or xs k 0
    → t0 ≡ front ++ flat_map f (take k xs) → t2 ≡ t0 ++ f x → t2 ≡ front ++ flat_map f (take (k + 1) xs)
written_more f xs k x front t0 t2 within is before after =
    after ∙ ap (λ (t : List ℕ). t ++ f x) before ∙ append_assoc front (flat_map f (take k xs)) (f x)
    ∙ ap (λ (t : List ℕ). front ++ t) (sym (one_more f xs k x 0 within is))

pub loop-byte-preserved : goal.loop-byte-preserved
loop-byte-preserved c =
    let x : ℕ = get_or c.args.bytes.now c.loop-byte.byte-index 0 in
    let known = c.loop-byte.invariant in
    let escapes = c.args.escapes in
    let mark : c.from-marked.result ≡ cond (takes_backslash escapes x) 1 0 =
    c.from-marked.ensures ∙ byte_of c.takes_backslash.result ∙ ap (λ (b : Bool). cond b 1 0) c.takes_backslash.ensures in
    record {
      size = c.put-at.auto.text ∙ c.put_front-at.auto.text ∙ known.size;
      within = omega (arith, known.within, c.put-at.ensures.end, c.put_front-at.ensures.end, mark, at_most_one (takes_backslash escapes x));
      written = written_more (escaped_byte escapes) c.args.bytes.now c.loop-byte.byte-index x (take c.args.start c.args.text.now) (take c.loop-byte.at c.loop-byte.text) _
          c.loop-byte-test.true refl known.written
          (byte_written escapes x c.from-marked.result _ _ _ mark c.put_front-at.ensures.written c.put-at.ensures.written);
    }

pub returns-clause-written : goal.returns-clause-written
returns-clause-written c = grind (arith, common_steps)
