-- A head that an endpoint sent, and a text in ASCII that it sent.
use Rattle.std.proofs.Common.{◌≡◌, ℕ, List, ◌++◌, length, drop, Option, None, Some, sym, ap, ◌∙◌, subst, append_assoc, arith}
use Rattle.std.proofs.lemmas.List.{take-append-drop}
use Rattle.std.proofs.Math.Seq.{drop-append_seam}
use Rattle.std.specs.Io.KnownBytes.{Consumes}
use Rattle.wsn_wire.specs.declared.endpoint.Role.{Role}
use Rattle.wsn_wire.specs.Frame.{Frame, stream}
use Rattle.wsn_rules.specs.declared.head_info.HeadInfo.{HeadInfo}
use Rattle.wsn_rules.specs.Limits.{Limits}
use Rattle.wsn_rules.proofs.HeadsGoOn.{begins_longer}
use Rattle.wsn_scan.specs.Positions.{Position, InFrame, IsTakenOf}
use Rattle.wsn_hint.specs.SideHints.{BeginsInAscii, HasHead}

-- The head of the frame that has begun came after whole frames.
pub head_sent : (role : Role) (limits : Limits) (sent came payload : List ℕ) (left : Option (List ℕ)) (fs : List Frame) (at : Position) (head : HeadInfo)
    → Consumes (Some sent) left came → IsTakenOf role limits came fs at → at ≡ InFrame head payload → HasHead role limits sent head
unfolding begins_longer
head_sent role limits sent came payload None fs at head consumed taken is = absurd consumed
head_sent role limits sent came payload (Some more) fs at head consumed taken is =
    let begun = subst (IsTakenOf role limits came fs) is taken in
    let over = drop limits.input came in
    let all : came ≡ stream fs ++ (begun.rest ++ over) =
    sym (take-append-drop limits.input came) ∙ ap (λ (bs : List ℕ). bs ++ over) begun.whole ∙ append_assoc (stream fs) begun.rest over in
    record {
      frames = fs;
      rest = (begun.rest ++ over) ++ more;
      lawful = begun.lawful;
      whole = consumed ∙ ap (λ (bs : List ℕ). bs ++ more) all ∙ append_assoc (stream fs) (begun.rest ++ over) more;
      begins = (begins_longer role limits fs (begun.rest ++ over) more head (begins_longer role limits fs begun.rest over head begun.begun.2.0));
    }

-- The bytes after some that were read begin with a text.
pub text_after : (sent passed : List ℕ) (old left : Option (List ℕ)) (start most count : ℕ) → old ≡ Some sent → length passed ≡ start → Consumes old left passed
    → ((bytes : List ℕ) → left ≡ Some bytes → BeginsInAscii most count bytes) → BeginsInAscii most count (drop start sent)
text_after sent passed old left start most count known size consumed text = grind (arith, drop-append_seam)
