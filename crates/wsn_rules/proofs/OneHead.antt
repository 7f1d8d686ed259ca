-- A head's bytes determine it, so bytes begin with one head at most.
use Rattle.std.specs.Prelude.{is_some, IfSome}
use Rattle.std.proofs.Common.{◌≡◌, ℕ, ◌<◌, ◌^◌, Bool, cond, List, ◌∷◌, ◌++◌, sym, ap, ◌∙◌, append_assoc}
use Rattle.wsn_wire.specs.declared.endpoint.Role.{Role}
use Rattle.wsn_wire.specs.declared.length_encoding.LenForm.{LenForm}
use Rattle.wsn_wire.specs.Frame.{Frame, IsKey, FormFits, first_byte, second_byte, len_form_of, length_bytes, key_bytes, head_bytes}
use Rattle.wsn_wire.specs.ReceivedHead.{fin_bit, opcode_field, mask_bit, len_form_at, length_count, encoded_length}
use Rattle.wsn_wire.proofs.FrameLemmas.{first_byte_fields, second_byte_fields, length_bytes_fields, spells-len_form_of, key_bytes_count, op_at, op_at-opcode, key_at, key_at-key_bytes, form_at, form_at-len_form_of, fronts_agree}
use Rattle.wsn_rules.specs.declared.head_info.HeadInfo.{HeadInfo}
use Rattle.wsn_rules.specs.Limits.{Limits}
use Rattle.wsn_rules.specs.Heads.{BeginsWithHead}
use Rattle.wsn_rules.proofs.Prefixes.{append_cancel}

-- a head's parts, which can be encoded
record IsHeadOf (info : HeadInfo) : Type 0 where
  key : IfSome info.key IsKey
  form : FormFits info.form info.len
  size : info.len < 2 ^ 63

abbrev bytes_of : HeadInfo → List ℕ
bytes_of info = head_bytes info.fin info.op info.key info.form info.len

abbrev field_of : HeadInfo → LenForm
field_of info = len_form_of info.form info.len

abbrev lengths_of : HeadInfo → List ℕ
lengths_of info = length_bytes (field_of info) info.len

same_head : (info other : HeadInfo) → IsHeadOf info → IsHeadOf other → (following more : List ℕ) → info.offset ≡ other.offset → bytes_of info ++ following ≡ bytes_of other ++ more → info ≡ other
same_head info other is also following more offset same =
    let of_first = first_byte_fields info.fin info.op in
    let other_first = first_byte_fields other.fin other.op in
    let spells = spells-len_form_of info.form info.len is.form is.size in
    let other_encodes = spells-len_form_of other.form other.len also.form also.size in
    let of_second = second_byte_fields info.key (field_of info) info.len spells in
    let other_second = second_byte_fields other.key (field_of other) other.len other_encodes in
    let of_length = length_bytes_fields (field_of info) info.len spells in
    let other_length = length_bytes_fields (field_of other) other.len other_encodes in
    let tail : List ℕ = (lengths_of info ++ key_bytes info.key) ++ following in
    let other_tail : List ℕ = (lengths_of other ++ key_bytes other.key) ++ more in
    let parts : first_byte info.fin info.op ∷ second_byte info.key (field_of info) ∷ tail ≡ first_byte other.fin other.op ∷ second_byte other.key (field_of other) ∷ other_tail = same in
    let first : first_byte info.fin info.op ≡ first_byte other.fin other.op = cc in
    let second : second_byte info.key (field_of info) ≡ second_byte other.key (field_of other) = cc in
    let tails : tail ≡ other_tail = cc in
    let field : field_of info ≡ field_of other = sym of_second.field_is ∙ ap len_form_at second ∙ other_second.field_is in
    let mask : is_some info.key ≡ is_some other.key = sym of_second.mask_is ∙ ap mask_bit second ∙ other_second.mask_is in
    let after_lengths : lengths_of info ++ (key_bytes info.key ++ following) ≡ lengths_of other ++ (key_bytes other.key ++ more) =
    sym (append_assoc (lengths_of info) (key_bytes info.key) following) ∙ tails ∙ append_assoc (lengths_of other) (key_bytes other.key) more in
    let lengths = fronts_agree (lengths_of info) (lengths_of other) (key_bytes info.key ++ following) (key_bytes other.key ++ more) (of_length.count ∙ ap length_count field ∙ sym other_length.count) after_lengths in
    let keys = fronts_agree (key_bytes info.key) (key_bytes other.key) following more
    (key_bytes_count info.key is.key ∙ ap (λ (b : Bool). cond b 4 0) mask ∙ sym (key_bytes_count other.key also.key)) lengths.1 in
    let len : info.len ≡ other.len =
    sym of_length.decoded ∙ ap (λ (f : LenForm). encoded_length f (lengths_of info)) field ∙ ap (λ (bs : List ℕ). encoded_length (field_of other) bs) lengths.0 ∙ other_length.decoded in
    let fin : info.fin ≡ other.fin = sym of_first.fin_is ∙ ap fin_bit first ∙ other_first.fin_is in
    let op : info.op ≡ other.op =
    sym (op_at-opcode info.op) ∙ ap op_at (sym of_first.opcode_is ∙ ap opcode_field first ∙ other_first.opcode_is) ∙ op_at-opcode other.op in
    let form : info.form ≡ other.form =
    sym (form_at-len_form_of info.form info.len is.form) ∙ ap (λ (f : LenForm). form_at f info.len) field ∙ ap (λ (n : ℕ). form_at (field_of other) n) len ∙ form_at-len_form_of other.form other.len also.form in
    let key : info.key ≡ other.key =
    sym (key_at-key_bytes info.key) ∙ ap (λ (b : Bool). key_at b (key_bytes info.key)) mask ∙ ap (λ (bs : List ℕ). key_at (is_some other.key) bs) keys.0 ∙ key_at-key_bytes other.key in
    λ i. record { offset = offset i; fin = fin i; op = op i; key = key i; form = form i; len = len i }

module _ (role : Role) (limits : Limits) (fs : List Frame) (rest : List ℕ) where
  pub one_begun : (info other : HeadInfo) → BeginsWithHead role limits fs rest info → BeginsWithHead role limits fs rest other → info ≡ other
  one_begun info other b c =
      same_head info other (record { key = b.key; form = b.form; size = b.size }) (record { key = c.key; form = c.form; size = c.size }) b.following c.following (b.offset ∙ sym c.offset)
      (ap (λ (bs : List ℕ). bs ++ b.following) (sym b.encoded) ∙ sym b.whole ∙ c.whole ∙ ap (λ (bs : List ℕ). bs ++ c.following) c.encoded)

  -- The bytes after the head.
  pub one_following : (info other : HeadInfo) (b : BeginsWithHead role limits fs rest info) (c : BeginsWithHead role limits fs rest other) → b.following ≡ c.following
  one_following info other b c =
      let same = one_begun info other b c in
      append_cancel c.head b.following c.following
      (ap (λ (bs : List ℕ). bs ++ b.following) (c.encoded ∙ ap (λ (h : HeadInfo). bytes_of h) (sym same) ∙ sym b.encoded) ∙ sym b.whole ∙ c.whole)
