-- The value of a frame's object, and that it determines the frame's head.
use Rattle.std.proofs.Common.{◌≡◌, ℕ, Bool, true, false, if◌then◌else◌, Option, List, ◌++◌, codes, refl, sym, ap, ◌∙◌, append_assoc}
use Rattle.std.specs.Str.{bytes_eq}
use Rattle.wsn_wire.specs.declared.opcode.Op.{Op}
use Rattle.wsn_wire.specs.declared.opcode.Op.TheVariants as ops
use Rattle.wsn_wire.specs.declared.length_encoding.Form.{Form}
use Rattle.wsn_wire.specs.declared.length_encoding.Form.TheVariants as forms
use Rattle.wsn_rules.specs.declared.head_info.HeadInfo.{HeadInfo}
use Rattle.wsn_print.specs.HeadText.{op_word}
use Rattle.wsn_print.specs.Json.{boolean, field, string_field, number_field}
use Rattle.wsn_print.specs.Objects.{key_value, form_word, head_members, frame_fields, frame_object}
use Rattle.wsn_laws.specs.JsonText.{String, Object, Members, End, Member}
use Rattle.wsn_laws.specs.Answers.{IsHeadInRange}
use Rattle.wsn_laws.proofs.Strings.{are_unescaped}
use Rattle.wsn_laws.proofs.Written.{write, IsPlainValue, ArePlain}
use Rattle.wsn_laws.proofs.Words.{decimal_number}
use Rattle.wsn_laws.proofs.Fields.{number, one_number, one_written}
use Rattle.wsn_laws.proofs.Members.{AreWritten, member, number_is, word_is, boolean_json, boolean_is, one_boolean}
use Rattle.wsn_laws.proofs.Keys.{key_json, key_is, key_plain, one_key}

-- ---- words

op_with : List ℕ → Op
op_with word =
    if bytes_eq word (codes "cont") then ops.Continue
    else if bytes_eq word (codes "text") then ops.Text
    else if bytes_eq word (codes "binary") then ops.Binary
    else if bytes_eq word (codes "close") then ops.Close
    else if bytes_eq word (codes "ping") then ops.Ping
    else ops.Pong

op_back : (op : Op) → op_with (op_word op) ≡ op
unfolding op_with
op_back ops.Continue = refl
op_back ops.Text = refl
op_back ops.Binary = refl
op_back ops.Close = refl
op_back ops.Ping = refl
op_back ops.Pong = refl

pub one_op : (op other : Op) → op_word op ≡ op_word other → op ≡ other
one_op op other same = sym (op_back op) ∙ ap op_with same ∙ op_back other

pub plain_op : (op : Op) → are_unescaped (op_word op) ≡ true
plain_op ops.Continue = refl
plain_op ops.Text = refl
plain_op ops.Binary = refl
plain_op ops.Close = refl
plain_op ops.Ping = refl
plain_op ops.Pong = refl

form_with : List ℕ → Form
form_with word =
    if bytes_eq word (codes "shortest") then forms.Shortest
    else if bytes_eq word (codes "two") then forms.Two
    else forms.Eight

form_back : (form : Form) → form_with (form_word form) ≡ form
unfolding form_with
form_back forms.Shortest = refl
form_back forms.Two = refl
form_back forms.Eight = refl

one_form : (form other : Form) → form_word form ≡ form_word other → form ≡ other
one_form form other same = sym (form_back form) ∙ ap form_with same ∙ form_back other

pub plain_form : (form : Form) → are_unescaped (form_word form) ≡ true
plain_form forms.Shortest = refl
plain_form forms.Two = refl
plain_form forms.Eight = refl

-- ---- the value

abbrev pub head_json : HeadInfo → Members
head_json h =
    Member (codes "offset") (number h.offset) (Member (codes "fin") (boolean_json h.fin) (Member (codes "opcode") (String (op_word h.op))
    (Member (codes "key") (key_json h.key) (Member (codes "length") (number h.len) (Member (codes "form") (String (form_word h.form)) End)))))

abbrev pub frame_members : HeadInfo → Members
frame_members h = Member (codes "type") (String (codes "frame")) (head_json h)

-- ---- written

five : (a b c d e rest : List ℕ) → a ++ (b ++ (c ++ (d ++ (e ++ rest)))) ≡ (a ++ b ++ c ++ d ++ e) ++ rest
five a b c d e rest = simp append_assoc

pub head_written : (h : HeadInfo) (rest : List ℕ) → AreWritten (head_json h) rest (frame_fields h ++ rest)
head_written h rest =
    let last : AreWritten End rest rest = record { are = refl } in
    let members = member (codes "offset") (number_is h.offset) (member (codes "fin") (boolean_is h.fin) (member (codes "opcode") (word_is (op_word h.op))
    (member (codes "key") (key_is h.key) (member (codes "length") (number_is h.len) (member (codes "form") (word_is (form_word h.form)) last))))) in
    record {
      are =
          members.are
          ∙ ap (λ (bs : List ℕ). number_field (codes "offset") h.offset ++ bs) (five (field (codes "fin") (boolean h.fin)) (string_field (codes "opcode") (op_word h.op)) (field (codes "key") (key_value h.key)) (number_field (codes "length") h.len) (string_field (codes "form") (form_word h.form)) rest)
          ∙ sym (append_assoc (number_field (codes "offset") h.offset) (head_members h) rest);
    }

pub frame_written : (h : HeadInfo) → frame_object h ≡ write (Object (frame_members h)) (codes "\n")
frame_written h =
    append_assoc (codes "{\"type\":\"frame\"") (frame_fields h) (codes "}\n")
    ∙ ap (λ (bs : List ℕ). codes "{\"type\":\"frame\"" ++ bs) (sym (head_written h (codes "}\n")).are)

-- ---- plain

pub plain_boolean : (b : Bool) → IsPlainValue (boolean_json b)
plain_boolean true = tt
plain_boolean false = tt

pub head_plain : (h : HeadInfo) → IsHeadInRange h → ArePlain (head_json h)
head_plain h fits = (
  refl,
  decimal_number h.offset fits.offset,
  (
    refl,
    plain_boolean h.fin,
    (
      refl,
      plain_op h.op,
      (
        refl,
        key_plain h.key fits.key,
        (refl, decimal_number h.len fits.len, (refl, plain_form h.form, tt)),
      ),
    ),
  ),
)

pub frame_plain : (h : HeadInfo) → IsHeadInRange h → IsPlainValue (Object (frame_members h))
frame_plain h fits = (refl, refl, head_plain h fits)

-- ---- what the value determines

head_of : ℕ → Bool → Op → Option (List ℕ) → Form → ℕ → HeadInfo
head_of place fin op key form len = record { offset = place; fin = fin; op = op; key = key; form = form; len = len }

heads : (p p' l l' : ℕ) (f f' : Bool) (o o' : Op) (k k' : Option (List ℕ)) (m m' : Form) → p ≡ p' → f ≡ f' → o ≡ o' → k ≡ k' → m ≡ m' → l ≡ l'
    → head_of p f o k m l ≡ head_of p' f' o' k' m' l'
heads p p' l l' f f' o o' k k' m m' places fins ops keys forms lens = cc

head_same : (h other : HeadInfo) → h.offset ≡ other.offset → h.fin ≡ other.fin → h.op ≡ other.op → h.key ≡ other.key → h.form ≡ other.form → h.len ≡ other.len → h ≡ other
unfolding head_of
head_same h other places fins same_ops keys same_forms lens =
    heads h.offset other.offset h.len other.len h.fin other.fin h.op other.op h.key other.key h.form other.form places fins same_ops keys same_forms lens

pub one_head : (h other : HeadInfo) → IsHeadInRange h → IsHeadInRange other → head_json h ≡ head_json other → h ≡ other
one_head h other fits also same =
    let places : number h.offset ≡ number other.offset = cc in
    let fins : boolean_json h.fin ≡ boolean_json other.fin = cc in
    let words : op_word h.op ≡ op_word other.op = cc in
    let keys : key_json h.key ≡ key_json other.key = cc in
    let lens : number h.len ≡ number other.len = cc in
    let form_words : form_word h.form ≡ form_word other.form = cc in
    head_same h other (one_number h.offset other.offset fits.offset also.offset places) (one_boolean h.fin other.fin fins) (one_op h.op other.op words)
    (one_key h.key other.key fits.key also.key keys) (one_form h.form other.form form_words) (one_number h.len other.len fits.len also.len lens)

pub one_frame : (h other : HeadInfo) → IsHeadInRange h → IsHeadInRange other → frame_object h ≡ frame_object other → h ≡ other
one_frame h other fits also same =
    let values : Object (frame_members h) ≡ Object (frame_members other) =
    one_written (Object (frame_members h)) (Object (frame_members other)) (frame_object h) (frame_object other)
    (frame_plain h fits) (frame_plain other also) (frame_written h) (frame_written other) same in
    let members : head_json h ≡ head_json other = cc in
    one_head h other fits also members
