use Rattle.std.proofs.Common.{Ok, arith}
use Rattle.sp_ids.proofs.Spelling.{told, told_err}
use Rattle.hex.specs.declared.error.FromHexError.TheVariants as hex
use Rattle.sp_ids.proofs.bytes.read_hex.Goals as goal

pub returns-in-Ok : goal.returns-in-Ok
returns-in-Ok c = told c.args.text.now (Ok c.in-Ok.bytes) c.from_hex.ensures c.in-Ok.is

pub returns-in-Err-OddLength : goal.returns-in-Err-OddLength
returns-in-Err-OddLength c =
    let odd = c.in-Err-OddLength in
    told_err c.args.text.now hex.OddLength c.from_hex.ensures odd.is odd.field-0-is

pub overflow_cast-result : goal.overflow_cast-result
overflow_cast-result c =
    let bad = c.in-Err-InvalidHexCharacter in
    omega (arith, (told_err c.args.text.now (hex.InvalidHexCharacter bad.field-0-0 bad.index) c.from_hex.ensures bad.is bad.field-0-is).1)

pub returns-in-Err-InvalidHexCharacter : goal.returns-in-Err-InvalidHexCharacter
returns-in-Err-InvalidHexCharacter c =
    let bad = c.in-Err-InvalidHexCharacter in
    (told_err c.args.text.now (hex.InvalidHexCharacter bad.field-0-0 bad.index) c.from_hex.ensures bad.is bad.field-0-is).0

pub returns-in-Err-InvalidStringLength : goal.returns-in-Err-InvalidStringLength
returns-in-Err-InvalidStringLength c =
    let wrong = c.in-Err-InvalidStringLength in
    told_err c.args.text.now hex.InvalidStringLength c.from_hex.ensures wrong.is wrong.field-0-is

pub unreachable-requires : goal.unreachable-requires
unreachable-requires c =
    let none = c.in-Err-OutOfMemory in
    told_err c.args.text.now hex.OutOfMemory c.from_hex.ensures none.is none.field-0-is
