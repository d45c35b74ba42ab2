-- What is exported of a journal is read again.
use Rattle.std.proofs.Common.{◌≡◌, ◌≤◌, ◌+◌, ◌*◌, ℕ, true, List, [], ◌∷◌, ◌++◌, length, map, refl, sym, ap, ◌∙◌, arith, length-append}
use Rattle.std.specs.Int.{w32, to_le_bytes}
use Rattle.std.proofs.lemmas.List.{append-nil}
use Rattle.sp_form.specs.Turns.{InTurn}
use Rattle.sp_model.specs.declared.profile.Profile.{Profile}
use Rattle.sp_block.proofs.Judged.{block_spelled}
use Rattle.sp_feed.specs.declared.kind.Kind.TheVariants.{Block}
use Rattle.sp_feed.specs.Format.{head_of}
use Rattle.sp_feed.specs.Kinds.{SaysBlock}
use Rattle.sp_feed.specs.Spelling.{AllFit, framed, frames_of, written}
use Rattle.sp_feed.specs.Versions.{name, stem}
use Rattle.sp_model.proofs.ProfileNames.{eight as eight_behind}
use Rattle.sp_feed.proofs.WrittenFeeds.{written_is_read}
use Rattle.sp_journal.specs.Journal.{first_ids}
use Rattle.sp_journal.specs.Judged.{IsRecord, with_id}
use Rattle.sp_journal.specs.Records.{records}
use Rattle.sp_journal.proofs.RecordLaws.{front_found, short_record}
use Rattle.spectre.specs.Exports.{exported, ExportIsRead}
use Rattle.spectre.specs.Replay.{fed, feed_limit}

-- a recorded block fits into a frame
all_fit : (bits : ℕ) (ids : List ℕ) (blocks : List (List ℕ)) → InTurn (IsRecord bits) with_id ids blocks → AllFit (map SaysBlock blocks)
all_fit bits ids [] each = tt
all_fit bits ids (b ∷ blocks) each = (let short = short_record bits ids b each.0 in omega (arith, short), all_fit bits (with_id ids b) blocks each.1)

-- and all of them into a feed
few_bytes : (bits : ℕ) (ids : List ℕ) (blocks : List (List ℕ)) → InTurn (IsRecord bits) with_id ids blocks → length (frames_of (map SaysBlock blocks)) ≤ 65541 * length blocks + 5
few_bytes bits ids [] each = omega arith
few_bytes bits ids (b ∷ blocks) each =
    let short = short_record bits ids b each.0 in
    let more = few_bytes bits (with_id ids b) blocks each.1 in
    omega (arith, short, more, length-append (framed Block b) (frames_of (map SaysBlock blocks)), length-append (to_le_bytes w32 (length b)) b)

eight : (profile : Profile) → length (name profile) ≡ 8
eight profile = eight_behind stem profile refl

pub export_is_read : ExportIsRead
unfolding exported
export_is_read profile disk c bytes is =
    let are = (front_found c disk bytes is).are in
    let head = head_of profile c.bits c.genesis in
    let messages = map SaysBlock c.blocks in
    let genesis : length c.genesis ≤ 65536 = let s = (block_spelled true c.genesis are.genesis).1.short in omega (arith, s) in
    let frames = few_bytes c.bits (first_ids c.genesis) c.blocks are.records in
    let behind = framed Block c.genesis ++ frames_of messages in
    let long : length (written head messages) ≤ feed_limit =
    omega (arith, length-append (name profile) (c.bits ∷ behind), eight profile, length-append (framed Block c.genesis) (frames_of messages), length-append (to_le_bytes w32 (length c.genesis)) c.genesis, frames, genesis, are.few) in
    ap fed (sym (append-nil (written head messages)))
    ∙ written_is_read feed_limit head messages [] are.bits are.genesis (all_fit c.bits (first_ids c.genesis) c.blocks are.records) long
