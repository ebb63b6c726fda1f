-- Laws of the descriptors, lowest first.
pub mod VolumeLaws
pub mod FileSetLaws
pub mod AnswerLaws
pub mod RecognitionLaws
