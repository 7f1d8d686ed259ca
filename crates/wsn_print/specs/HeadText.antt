-- The words of a frame's head, its fields, which `show` prints too, and its line, with its LF.
use Rattle.std.specs.Prelude.{ℕ, Bool, true, false, Option, Some, None, List, [], ◌++◌, flat_map, codes, decimal}
use Rattle.hex.specs.Hex.{encode_lower}
use Rattle.wsn_wire.specs.declared.opcode.Op.{Op, TheVariants.{Continue, Text, Binary, Close, Ping, Pong}}
use Rattle.wsn_wire.specs.declared.length_encoding.Form.{Form, TheVariants.{Shortest, Two, Eight}}
use Rattle.wsn_rules.specs.declared.head_info.HeadInfo.{HeadInfo}

-- Whether a frame has FIN.
abbrev pub fin_word : Bool → List ℕ
fin_word true = codes "fin"
fin_word false = codes "more"

-- The word for an opcode.
abbrev pub op_word : Op → List ℕ
op_word Continue = codes "cont"
op_word Text = codes "text"
op_word Binary = codes "binary"
op_word Close = codes "close"
op_word Ping = codes "ping"
op_word Pong = codes "pong"

-- A key's four bytes as eight hexadecimal digits; a dash without a key.
abbrev pub key_text : Option (List ℕ) → List ℕ
key_text None = codes "-"
key_text (Some key) = encode_lower key

-- The form of a length, after it, if that isn't the shortest encoding.
abbrev pub form_text : Form → List ℕ
form_text Shortest = []
form_text Two = codes " two"
form_text Eight = codes " eight"

-- FIN, the opcode, the key, and the payload's length with its form.
abbrev pub head_fields : HeadInfo → List ℕ
head_fields h =
    fin_word h.fin ++ codes " " ++ op_word h.op ++ codes " " ++ key_text h.key ++ codes " " ++ decimal h.len
    ++ form_text h.form

-- The frame's offset, and the fields.
abbrev pub head_line : HeadInfo → List ℕ
head_line h = decimal h.offset ++ codes " " ++ head_fields h ++ codes "\n"

-- The lines of heads, in order.
abbrev pub head_lines : List HeadInfo → List ℕ
head_lines heads = flat_map head_line heads
