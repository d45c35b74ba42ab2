-- A `&` to the owner reaches each word that is written. Assumes `Logic`.
use denote.RawPtr.{RawPtr}
use denote.Param.Shared.{copy_shared}
use denote.Struct.Laws.{field_copy}
use denote.Struct.Lending.{of_Lends}
use Rattle.std.specs.contracts.marker.PhantomData as marker
use Rattle.sp_rows.specs.contracts.raw.Owned as O
use Rattle.sp_rows.proofs.raw.Owned.TheLaw.Statement.{statement}
use Rattle.sp_rows.proofs.Sharing.{words_lent_laws, Lends-owned}

pub shares : statement
shares = of_Lends O.struct (O.the_codes (marker.the_row RawPtr).coded) O.the_heap O.the_lent
    (λ d p. words_lent_laws d.at d.words) (copy_shared (marker.the_field RawPtr) (field_copy (marker.the_type RawPtr) tt), tt)
    (λ M 𝓤 𝓛 d p. Lends-owned 𝓛 O.the_row.lives d.at d.words)
