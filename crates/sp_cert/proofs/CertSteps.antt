-- The steps that read a certificate are the reading of its format.
use Rattle.std.proofs.Common.{◌≡◌, ℕ, List, refl, ◌∙◌}
use Rattle.std.specs.Prelude.{ℤ}
use Rattle.sp_form.specs.Places.{Got, Input, placed}
use Rattle.sp_form.proofs.Places.{placed_then}
use Rattle.sp_block.specs.Block.{ReadBlock}
use Rattle.sp_model.specs.declared.profile.Profile.{Profile}
use Rattle.sp_cert.specs.Certificate.{Certificate, Entries, IsCertificate}
use Rattle.sp_cert.specs.Format.{blocks_form, cert_form, count_form, id_form, name_form, profile_form, sign_form, worlds_form}
use Rattle.sp_cert.specs.Reading.{cert_steps}
use Rattle.sp_cert.proofs.SaidCerts.{makes_cert}

pub steps_are : (input : Input) → placed cert_form input ≡ cert_steps input
unfolding cert_form placed
steps_are input = simp placed_then

pub stepped_cert : (input rest : Input) (c : Certificate) → cert_steps input ≡ Got c rest → IsCertificate c
stepped_cert input rest c e = makes_cert input rest c (steps_are input ∙ e)

pub read_cert_is : (i0 i1 i2 i3 i4 i5 i6 i7 i8 i9 : Input) (name : List ℕ) (profile : Profile) (n : ℕ) (blocks : List ReadBlock) (x y : ℕ) (sign : ℤ) (count : ℕ) (worlds : List Entries)
    → placed name_form i0 ≡ Got name i1 → placed profile_form i1 ≡ Got profile i2 → placed count_form i2 ≡ Got n i3 → placed (blocks_form n) i3 ≡ Got blocks i4 → placed id_form i4 ≡ Got x i5 → placed id_form i5 ≡ Got y i6 → placed sign_form i6 ≡ Got sign i7
    → placed count_form i7 ≡ Got count i8 → placed (worlds_form n count) i8 ≡ Got worlds i9 → IsCertificate (record { profile = profile; blocks = blocks; x = x; y = y; sign = sign; worlds = worlds })
read_cert_is i0 i1 i2 i3 i4 i5 i6 i7 i8 i9 name profile n blocks x y sign count worlds a b c d e f g h i =
    let all : cert_steps i0 ≡ Got (record { profile = profile; blocks = blocks; x = x; y = y; sign = sign; worlds = worlds }) i9 = rw (a, b, c, d, e, f, g, h, i) refl in
    stepped_cert i0 i9 (record { profile = profile; blocks = blocks; x = x; y = y; sign = sign; worlds = worlds }) all
