-- The length is in the second byte, or in two or eight bytes, if they are there.
use Rattle.std.proofs.Common.{◌<◌, ◌≤◌, Ok, length, take, sym, subst, arith, rules}
use Rattle.wsn_wire.specs.declared.length_encoding.LenForm.{LenForm}
use Rattle.wsn_wire.specs.declared.length_encoding.LenForm.TheVariants.{Two, Eight}
use Rattle.wsn_wire.specs.ReceivedHead.{length_count}
use Rattle.wsn_frame.specs.PartialHeads.{IsLengthRead}
use Rattle.wsn_frame.proofs.HeadsAtOnce.{short_shows_nothing, length_read}
use Rattle.wsn_frame.proofs.parsing.length_in.Goals as goal

pub returns-in-Short-clause-read : goal.returns-in-Short-clause-read
returns-in-Short-clause-read c =
    let following = c.args.following.now in
    subst (λ (f : LenForm). (length_count f ≤ length following) × IsLengthRead c.args.lengths f (take (length_count f) following) (Ok c.from.result)) (sym c.in-Short.is)
    (omega arith, (c.from.ensures, λ reason. short_shows_nothing c.args.lengths reason c.in-Short.len _))

pub returns-in-Some-clause-read : goal.returns-in-Some-clause-read
returns-in-Some-clause-read c =
    let following = c.args.following.now in
    let chunk = c.in-Some.ensures.cases in
    subst (λ (f : LenForm). (length_count f ≤ length following) × IsLengthRead c.args.lengths f (take (length_count f) following) c.read_two_byte_length.result) (sym c.in-Two.is)
    (chunk.enough, subst (λ bytes. IsLengthRead c.args.lengths Two bytes c.read_two_byte_length.result) chunk.same (length_read c.args.lengths Two c.in-Some.bytes.now c.read_two_byte_length.result c.read_two_byte_length.ensures.decoded c.read_two_byte_length.ensures.nothing_evident c.read_two_byte_length.ensures.refused))

pub returns-in-None-clause-missing : goal.returns-in-None-clause-missing
returns-in-None-clause-missing c = subst (λ (f : LenForm). length c.args.following.now < length_count f) (sym c.in-Two.is) c.in-None.ensures.cases

pub returns-in-Some-first_chunk-clause-read : goal.returns-in-Some-first_chunk-clause-read
returns-in-Some-first_chunk-clause-read c =
    let following = c.args.following.now in
    let chunk = c.in-Some-first_chunk.ensures.cases in
    subst (λ (f : LenForm). (length_count f ≤ length following) × IsLengthRead c.args.lengths f (take (length_count f) following) c.read_eight_byte_length.result) (sym c.in-Eight.is)
    (chunk.enough, subst (λ bytes. IsLengthRead c.args.lengths Eight bytes c.read_eight_byte_length.result) chunk.same (length_read c.args.lengths Eight c.in-Some-first_chunk.bytes.now c.read_eight_byte_length.result c.read_eight_byte_length.ensures.decoded c.read_eight_byte_length.ensures.nothing_evident c.read_eight_byte_length.ensures.refused))

pub returns-in-None-first_chunk-clause-missing : goal.returns-in-None-first_chunk-clause-missing
returns-in-None-first_chunk-clause-missing c = subst (λ (f : LenForm). length c.args.following.now < length_count f) (sym c.in-Eight.is) c.in-None-first_chunk.ensures.cases

pub first_chunk-requires : goal.first_chunk-requires
first_chunk-requires c = search rules

pub first_chunk-requires-in-Eight : goal.first_chunk-requires-in-Eight
first_chunk-requires-in-Eight c = search rules
